-- Texts of several pieces.
use mathlib.Core.List.{append_assoc}

pub ruleset texts = append_assoc
