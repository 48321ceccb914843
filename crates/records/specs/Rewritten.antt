-- What a store to lent arenas leaves: the same buffer of the same M and N, which holds these words.
use Rattle.std.specs.Prelude.{◌≡◌, List, ℕ}
use Rattle.words.specs.Words.{words}
use Rattle.records.specs.declared.arenas.Arenas.{Arenas}

pub record Rewritten (before after : Arenas) (ws : List ℕ) : Type 0 where
  pub same : after.bytes.ghost_name ≡ before.bytes.ghost_name
  pub values : after.m ≡ before.m
  pub nodes : after.n ≡ before.n
  pub words : words after.bytes.now ≡ ws
