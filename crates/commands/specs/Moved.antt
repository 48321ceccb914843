-- Bytes moved to the front of their buffer one by one: what holds after so many of them, and that all of them are the bytes in one piece.
use Rattle.std.specs.Prelude.{◌≡◌, length, get_or, set, take, drop}
use Rattle.std.proofs.Math.Path.{refl}
use Rattle.std.proofs.Common.{sym, ap, subst, ◌∙◌, add-one, arith, length-drop, length-set, take-append-drop, drop-drop, take-suc, take-suc-set, drop-set-lt, get_or-drop}
use mathlib.Core.List.{List, [], ◌∷◌, ◌++◌}
use Prim.Native.Nat.{ℕ, zero, suc, ◌+◌, ◌-◌, ◌<◌, ◌≤◌}

-- so many bytes from a place on are moved to the front
pub record Moved (from : ℕ) (before after : List ℕ) (i : ℕ) : Type 0 where
  pub long : length after ≡ length before
  pub front : take i after ≡ take i (drop from before)
  pub rest : drop i after ≡ drop i before

pub moved_none : {from : ℕ} {before : List ℕ} → Moved from before before 0
moved_none = record { long = refl; front = refl; rest = refl }

pub moved_more : {from : ℕ} {before after : List ℕ} {i : ℕ} → from + i < length before → Moved from before after i
    → Moved from before (set after i (get_or after (from + i) 0)) (i + 1)
moved_more {from} {before} {after} {i} h x =
    let turn : from + i ≡ i + from = omega arith in
    let same : get_or after (from + i) 0 ≡ get_or before (from + i) 0 =
    rw turn (sym (get_or-drop i after from 0) ∙ ap (λ (l : List ℕ). get_or l from 0) x.rest ∙ get_or-drop i before from 0) in
    let room : i < length after = omega (arith, x.long) in
    let far : i < length (drop from before) = omega (arith, length-drop from before) in
    record {
      long = length-set after i (get_or after (from + i) 0) ∙ x.long;
      front =
          rw (add-one i)
          (take-suc-set after i (get_or after (from + i) 0) room
          ∙ ap (λ (l : List ℕ). l ++ (get_or after (from + i) 0 ∷ [])) x.front
          ∙ ap (λ (b : ℕ). take i (drop from before) ++ (b ∷ [])) (same ∙ sym (get_or-drop from before i 0))
          ∙ sym (take-suc (drop from before) i 0 far));
      rest =
          drop-set-lt (i + 1) after i (get_or after (from + i) 0) (omega arith)
          ∙ sym (drop-drop 1 i after)
          ∙ ap (λ (l : List ℕ). drop 1 l) x.rest
          ∙ drop-drop 1 i before;
    }

-- all of them
pub moved_all : {from : ℕ} {before after : List ℕ} {i : ℕ} (many : ℕ) → i ≡ many → Moved from before after i
    → after ≡ take many (drop from before) ++ drop many before
moved_all {from} {before} {after} {i} many e x =
    subst (λ (k : ℕ). after ≡ take k (drop from before) ++ drop k before) e
    (sym (take-append-drop i after) ∙ ap (λ (l : List ℕ). l ++ drop i after) x.front ∙ ap (λ (l : List ℕ). take i (drop from before) ++ l) x.rest)
