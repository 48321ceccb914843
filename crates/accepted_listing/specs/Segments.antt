-- What is left of a list after taking from its two ends is a segment of it.
use Rattle.std.specs.Prelude.{◌≡◌, List, [], ◌∷◌, ◌++◌, map, Bool, true, false}
use Rattle.std.proofs.Common.{sym, ap, subst, ◌∙◌, append-nil, append_assoc, inl, inr}
use Rattle.std.proofs.lemmas.List.{map-append}
use Rattle.lists.specs.Lists.{All, Pairs, all_parts, pairs_parts}
use Rattle.lists.specs.Entries.{rest_of}
use Rattle.trees.specs.Ends.{rest_lone, Ends, ends}

pub record Segment {A : Type 0} (mid whole : List A) : Type 0 where
  pub before : List A
  pub behind : List A
  pub all : whole ≡ before ++ (mid ++ behind)

pub segment_whole : {A : Type 0} (xs : List A) → Segment xs xs
segment_whole xs = record { before = []; behind = []; all = sym (append-nil xs) }

pub segment_rest : {A : Type 0} (b : Bool) (mid whole : List A) → Segment mid whole → Segment (rest_of b mid) whole
segment_rest {A} b mid whole s = go b (ends b mid)
  where
    go : (b : Bool) → Ends b mid → Segment (rest_of b mid) whole
    go b (inl e) = record { before = s.before; behind = s.behind; all = s.all ∙ ap (λ (ys : List A). s.before ++ (ys ++ s.behind)) (e ∙ sym (ap (rest_of b) e)) }
    go false (inr (x, rest, e)) =
        record {
          before = s.before ++ x ∷ [];
          behind = s.behind;
          all = s.all ∙ rw e (sym (append_assoc s.before (x ∷ []) (rest ++ s.behind)));
        }
    go true (inr (x, rest, e)) =
        record {
          before = s.before;
          behind = x ∷ s.behind;
          all = s.all ∙ rw (e, rest_lone true x rest) (ap (λ (ys : List A). s.before ++ ys) (append_assoc rest (x ∷ []) s.behind));
        }

pub segment_all : {A : Type 0} (P : A → Type 0) (mid whole : List A) → Segment mid whole → All P whole → All P mid
segment_all P mid whole s h = (all_parts P mid s.behind (all_parts P s.before (mid ++ s.behind) (subst (All P) s.all h)).1).0

pub segment_pairs : {A : Type 0} (R : A → A → Type 0) (mid whole : List A) → Segment mid whole → Pairs R whole → Pairs R mid
segment_pairs R mid whole s h = (pairs_parts R mid s.behind (pairs_parts R s.before (mid ++ s.behind) (subst (Pairs R) s.all h)).1).0

pub segment_map : {A B : Type 0} (f : A → B) (mid whole : List A) → Segment mid whole → Segment (map f mid) (map f whole)
segment_map f mid whole s =
    record { before = map f s.before; behind = map f s.behind; all = ap (map f) s.all ∙ simp map-append }
