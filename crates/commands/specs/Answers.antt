-- What a line is answered: the rules C, "`i K V` answers `ok INDEX` or `full`; `r K` `gone V` or `none`; `g K` `val V` or `none`; `w K V` `set` or `none`; `n` and `x` (smallest, largest) `K V` or
-- `none`; `a` one `K V` a line, then `end COUNT`". Every line ends in LF (10). A refusal that the program's own map never gives (1, 2, 5, 6) is answered `bad`.
use Rattle.std.specs.Prelude.{◌≡◌, refl, List, [], ◌∷◌, ◌++◌, false, cond, ℕ, zero, suc, ◌+◌, ◌-◌, ◌<◌, ◌≤◌, eqb, Err, Ok, Result}
use Rattle.std.proofs.Common.{sym, ap, ◌∙◌, append_assoc, arith}
use Rattle.records.specs.declared.NodeIndex.{NodeIndex}
use Rattle.keys.specs.declared.Key.{Key}
use Rattle.records.specs.declared.Value.{Value}
use Rattle.records.specs.declared.Refusal.{Refusal}
use Rattle.records.specs.Numbers.{refusal_number, answer_number}
use Rattle.lookup.specs.Get.{get_of, write_of, write_image}
use Rattle.lookup.specs.Ends.{smallest_of, largest_of}
use Rattle.insert.specs.Steps.{insert_of, insert_image}
use Rattle.remove.specs.Steps.{remove_of, removed_image}
use Rattle.listing.specs.declared.Position.{Position}
use Rattle.listing.specs.declared.Stepped.{Stepped}
use Rattle.listing.specs.Position.{made_of}
use Rattle.listing.specs.Step.{step_of}
use Rattle.texts.specs.declared.Command.{Command}
use Rattle.texts.specs.declared.Command.TheVariants as command
use Rattle.texts.specs.Digits.{decimal_of}
use Rattle.texts.specs.Texts.{newline, bad_text, set_text, value_text, entry_text, end_text, refusal_text}

-- ---- the answer of each call

-- `ok INDEX`
unfoldable pub place_text : Result NodeIndex Refusal → List ℕ
place_text (Ok i) = (111 ∷ []) ++ (107 ∷ []) ++ (32 ∷ []) ++ decimal_of i.0 ++ newline
place_text (Err r) = refusal_text r

-- `gone V`
unfoldable pub gone_text : Result Value Refusal → List ℕ
gone_text (Ok v) = (103 ∷ 111 ∷ 110 ∷ 101 ∷ []) ++ (32 ∷ []) ++ value_text v
gone_text (Err r) = refusal_text r

-- `val V`
unfoldable pub val_text : Result Value Refusal → List ℕ
val_text (Ok v) = (118 ∷ 97 ∷ 108 ∷ 32 ∷ []) ++ value_text v
val_text (Err r) = refusal_text r

-- `set`
unfoldable pub done_text : Result Unit Refusal → List ℕ
done_text (Ok tt) = set_text
done_text (Err r) = refusal_text r

unfoldable pub one_text : Result (Key × Value) Refusal → List ℕ
one_text (Ok (key, v)) = entry_text key v
one_text (Err r) = refusal_text r

-- ---- a listing, entry by entry

-- a listing that comes to its end says how many; one that a damaged image stops is bad
unfoldable pub close_text : Refusal → ℕ → List ℕ
close_text r k = cond (eqb (refusal_number r) 4) (end_text k) bad_text

-- an entry is a line and the listing goes on
unfoldable pub step_text : Result (Key × Value) Refusal → ℕ → List ℕ → List ℕ
step_text (Ok (key, v)) k rest = entry_text key v ++ rest
step_text (Err r) k rest = close_text r k

-- from a position on, behind k entries, with so many left at most
unfoldable pub list_text : ℕ → ℕ → List ℕ → ℕ → Position → ℕ → List ℕ
list_text m n ws zero p k = end_text k
list_text m n ws (suc left) p k = step_text (step_of false m n ws p).entry k (list_text m n ws left (step_of false m n ws p).position (k + 1))

-- one step of it
pub list_step : (m n : ℕ) (ws : List ℕ) (left : ℕ) (p : Position) (k : ℕ) (key : Key) (v : Value) → 0 < left
    → (step_of false m n ws p).entry ≡ Ok (key, v)
    → entry_text key v ++ list_text m n ws (left - 1) (step_of false m n ws p).position (k + 1) ≡ list_text m n ws left p k
unfolding list_text step_text
list_step m n ws zero p k key v h e = absurd (omega arith)
list_step m n ws (suc left) p k key v h e =
    let less : suc left - 1 ≡ left = omega arith in
    rw (less, e)

pub list_close : (m n : ℕ) (ws : List ℕ) (left : ℕ) (p : Position) (k : ℕ) (r : Refusal) → 0 < left
    → (step_of false m n ws p).entry ≡ Err r → close_text r k ≡ list_text m n ws left p k
unfolding list_text step_text
list_close m n ws zero p k r h e = absurd (omega arith)
list_close m n ws (suc left) p k r h e = rw e

pub list_end_lem : (m n : ℕ) (ws : List ℕ) (left : ℕ) (p : Position) (k : ℕ) → left ≤ 0 → end_text k ≡ list_text m n ws left p k
unfolding list_text
list_end_lem m n ws zero p k h = refl
list_end_lem m n ws (suc left) p k h = absurd (omega arith)

-- the same behind what is written already, as a loop comes by it: k entries are written, and m - k may still come
pub list_on : (m n : ℕ) (ws : List ℕ) (p : Position) (k : ℕ) (key : Key) (v : Value) (after : Stepped) (s : List ℕ) → k < m
    → after ≡ step_of false m n ws p → after.entry ≡ Ok (key, v)
    → (s ++ entry_text key v) ++ list_text m n ws (m - (k + 1)) after.position (k + 1) ≡ s ++ list_text m n ws (m - k) p k
list_on m n ws p k key v after s h e g =
    let less : m - (k + 1) ≡ m - k - 1 = omega arith in
    append_assoc s (entry_text key v) (list_text m n ws (m - (k + 1)) after.position (k + 1))
    ∙ ap (λ (t : List ℕ). s ++ t)
    (rw (less, e) (list_step m n ws (m - k) p k key v (omega arith) (ap (λ (x : Stepped). x.entry) (sym e) ∙ g)))

pub list_shut : (m n : ℕ) (ws : List ℕ) (p : Position) (k : ℕ) (r : Refusal) (after : Stepped) (s : List ℕ) → k < m
    → after ≡ step_of false m n ws p → after.entry ≡ Err r
    → s ++ close_text r k ≡ s ++ list_text m n ws (m - k) p k
list_shut m n ws p k r after s h e g =
    ap (λ (t : List ℕ). s ++ t) (list_close m n ws (m - k) p k r (omega arith) (ap (λ (x : Stepped). x.entry) (sym e) ∙ g))

-- a map of capacity m has no more than m entries
unfoldable pub all_text : ℕ → ℕ → List ℕ → List ℕ
all_text m n ws = list_text m n ws m (made_of m n ws).position 0

-- ---- the answer of each command, and what it leaves of the image

unfoldable pub answer_of : ℕ → ℕ → List ℕ → Command → List ℕ
answer_of m n ws (command.Insert key v) = place_text (insert_of m n ws key)
answer_of m n ws (command.Remove key) = gone_text (remove_of m n ws key)
answer_of m n ws (command.Get key) = val_text (get_of m n ws key)
answer_of m n ws (command.Write key v) = done_text (write_of m n ws key)
answer_of m n ws command.Smallest = one_text (smallest_of m n ws)
answer_of m n ws command.Largest = one_text (largest_of m n ws)
answer_of m n ws command.All = all_text m n ws
answer_of m n ws command.Bad = bad_text

unfoldable pub image_after : ℕ → ℕ → List ℕ → Command → List ℕ
image_after m n ws (command.Insert key v) = insert_image m n ws key v
image_after m n ws (command.Remove key) = removed_image m n ws key
image_after m n ws (command.Get key) = ws
image_after m n ws (command.Write key v) = write_image m n ws key v
image_after m n ws command.Smallest = ws
image_after m n ws command.Largest = ws
image_after m n ws command.All = ws
image_after m n ws command.Bad = ws

-- 0 where the image is written; anything else, and no byte changes
unfoldable pub kept_by : ℕ → ℕ → List ℕ → Command → ℕ
kept_by m n ws (command.Insert key v) = answer_number (insert_of m n ws key)
kept_by m n ws (command.Remove key) = answer_number (remove_of m n ws key)
kept_by m n ws (command.Get key) = 1
kept_by m n ws (command.Write key v) = answer_number (write_of m n ws key)
kept_by m n ws command.Smallest = 1
kept_by m n ws command.Largest = 1
kept_by m n ws command.All = 1
kept_by m n ws command.Bad = 1
