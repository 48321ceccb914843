-- The demands for the bytes that a call is lent: every word of their image is a 32-bit word, so that what the theorems ask of words is so of every buffer.
use Rattle.std.specs.Prelude.{◌≡◌, refl, List, [], Bool, true, false, cond, ℕ, ◌+◌, ◌*◌, ◌%◌, ◌^◌, ◌≤◌, ◌<◌, length, get_or, eqb, leb, Ok}
use Rattle.std.proofs.Common.{arith, leb-true, leb-false}
use Rattle.words.specs.Words.{words, words_length, words_at, words_past, Bytes}
use Rattle.records.specs.Layout as layout
use Rattle.inspection.specs.Room.{Shaped}
use Rattle.full_check.specs.Check.{check_of}
use Rattle.lists.specs.Entries.{Rising}
use Rattle.lists.specs.Machine.{Call, Fitting, Entries}
use Rattle.record_views.specs.Small.{Small}
use Rattle.accepted_check.specs.Exact.{Exact}
use Rattle.histories.specs.Demands.{AsTheList, answers_as_one_list, check_is_exact}

words_small : (bytes : List ℕ) → Bytes bytes → Small (words bytes)
words_small bytes b k = go (leb (4 * k + 4) (length bytes)) refl
  where
    go : (w : Bool) → leb (4 * k + 4) (length bytes) ≡ w → get_or (words bytes) k 0 < 2 ^ 32
    go true e =
        let l : 4 * k + 4 ≤ length bytes = leb-true (4 * k + 4) (length bytes) e in
        rw (words_at bytes k l) (omega (arith, b (4 * k), b (4 * k + 1), b (4 * k + 2), b (4 * k + 3)))
    go false e =
        let l : length bytes < 4 * k + 4 = leb-false (4 * k + 4) (length bytes) e in
        rw (words_past bytes k (omega arith)) (omega arith)

-- the words of a buffer's image are 32-bit words
pub lent_small : (bytes : List ℕ) → Bytes bytes → Small (layout.image_of bytes)
unfolding layout.image_of
lent_small bytes b = go (eqb (length bytes % 4) 0)
  where
    go : (w : Bool) → Small (cond w (words bytes) [])
    go true = words_small bytes b
    go false = λ k. omega arith

-- On every buffer that the full check accepts, with whatever bytes for its scratch, each call answers as one ascending list does, and leaves an accepted image.
pub lent_answers : (m n : ℕ) (bytes scratch : List ℕ) → Bytes bytes → check_of m n (layout.image_of bytes) (words scratch) ≡ Ok tt
    → (es : Entries) × Rising es × ((c : Call) → Fitting c → AsTheList m n (layout.image_of bytes) c es)
lent_answers m n bytes scratch b e = answers_as_one_list m n (layout.image_of bytes) (words scratch) (lent_small bytes b) e

-- The check accepts exactly the buffers whose words meet the rules, where it is lent four bytes of scratch for each of M values.
pub lent_exact : (m n : ℕ) (bytes scratch : List ℕ) → Bytes bytes → Shaped m n (length (layout.image_of bytes)) → 4 * m ≤ length scratch → Exact m n (layout.image_of bytes) (words scratch)
lent_exact m n bytes scratch b shape l = check_is_exact m n (layout.image_of bytes) (words scratch) (lent_small bytes b) shape (omega (arith, words_length scratch))
