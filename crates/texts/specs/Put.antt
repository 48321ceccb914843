-- Bytes put into a buffer from a place on, and the laws by which two texts that are put one after the other are one text.
use Rattle.std.specs.Prelude.{◌≡◌, refl, List, [], ◌∷◌, ◌++◌, ◌≢◌, ℕ, suc, ◌+◌, ◌≤◌, length, take, drop, set}
use Rattle.std.proofs.Common.{sym, ap, subst, ◌∙◌, add-zero, add-one, arith, length-set, length-append}
use Rattle.std.proofs.lemmas.List.{set_comm}
use Rattle.std.proofs.lemmas.List.Edits.{sets, sets-eq}

-- the bytes of a text stand in the buffer from a place on; those past its end are dropped
unfoldable pub put : List ℕ → ℕ → List ℕ → List ℕ
put bytes at [] = bytes
put bytes at (b ∷ text) = put (set bytes at b) (at + 1) text

pub put_length : (bytes : List ℕ) (at : ℕ) (text : List ℕ) → length (put bytes at text) ≡ length bytes
unfolding put
put_length bytes at [] = refl
put_length bytes at (b ∷ text) = put_length (set bytes at b) (at + 1) text ∙ length-set bytes at b

-- nothing
pub put_none : (bytes : List ℕ) (at : ℕ) → put bytes at [] ≡ bytes
unfolding put
put_none bytes at = refl

-- one text behind another
pub put_append : (bytes : List ℕ) (at : ℕ) (s t : List ℕ) → put bytes at (s ++ t) ≡ put (put bytes at s) (at + length s) t
unfolding put
put_append bytes at [] t = rw (add-zero at)
put_append bytes at (b ∷ s) t =
    let e : at + 1 + length s ≡ at + suc (length s) = omega arith in
    put_append (set bytes at b) (at + 1) s t ∙ ap (λ (k : ℕ). put (put (set bytes at b) (at + 1) s) k t) e

-- a byte behind the text may be stored first
stored_first : (bytes : List ℕ) (at j g : ℕ) (text : List ℕ) → at + length text ≤ j → put (set bytes j g) at text ≡ set (put bytes at text) j g
unfolding put
stored_first bytes at j g [] h = refl
stored_first bytes at j g (b ∷ text) h =
    let apart : j ≢ at = λ e. omega arith in
    ap (λ (l : List ℕ). put l (at + 1) text) (set_comm bytes j at g b apart)
    ∙ stored_first (set bytes at b) (at + 1) j g text (omega arith)

pub put_last : (bytes : List ℕ) (at g : ℕ) (text : List ℕ) → put bytes at (text ++ (g ∷ [])) ≡ put (set bytes (at + length text) g) at text
unfolding put
put_last bytes at g text = put_append bytes at text (g ∷ []) ∙ sym (stored_first bytes at (at + length text) g text (omega arith))

-- what it comes to where the text has room: the bytes before, the text, the bytes behind
pub put_parts : (bytes : List ℕ) (at : ℕ) (text : List ℕ) → at + length text ≤ length bytes
    → put bytes at text ≡ take at bytes ++ text ++ drop (at + length text) bytes
unfolding put
put_parts bytes at text h = run bytes at text ∙ sets-eq text bytes at h
  where
    run : (bs : List ℕ) (k : ℕ) (t : List ℕ) → put bs k t ≡ sets bs k t
    run bs k [] = refl
    run bs k (b ∷ t) = run (set bs k b) (k + 1) t ∙ ap (λ (n : ℕ). sets (set bs k b) n t) (add-one k)

-- ---- what a function that prints leaves: the text from its place on, and the place behind it

pub record Written (before after : List ℕ) (at behind : ℕ) (text : List ℕ) : Type 0 where
  pub place : behind ≡ at + length text
  pub bytes : after ≡ put before at text

-- one after the other
pub then : {a b c : List ℕ} {i j k : ℕ} {s t : List ℕ} → Written a b i j s → Written b c j k t → Written a c i k (s ++ t)
then {a} {b} {c} {i} {j} {k} {s} {t} x y =
    record {
      place = omega (arith, x.place, y.place, length-append s t);
      bytes = y.bytes ∙ rw (x.place, x.bytes) (sym (put_append a i s t));
    }

-- nothing
pub nothing : {a : List ℕ} {i : ℕ} → Written a a i i []
nothing {a} {i} = record { place = omega arith; bytes = sym (put_none a i) }

-- the same text, written in another way
pub reads : {a b : List ℕ} {i j : ℕ} {s t : List ℕ} → s ≡ t → Written a b i j s → Written a b i j t
reads {a} {b} {i} {j} e x = subst (λ (l : List ℕ). Written a b i j l) e x
