-- A command on an accepted image is answered, as bytes, what the list is told to answer, and leaves an accepted image with the list's next state.
use Rattle.std.specs.Prelude.{◌≡◌, List, [], ◌∷◌, ◌++◌, Bool, ℕ, zero, suc, ◌+◌, ◌≤◌}
use Rattle.std.proofs.Math.Path.{refl, ap}
use Rattle.std.proofs.Common.{sym, ◌∙◌, append_assoc}
use Rattle.std.proofs.Math.Bool.{true, false, cond}
use Rattle.std.proofs.Math.Option.{Option, none, some}
use Rattle.std.proofs.Math.Decide.{ℕ_discrete}
use native.Mathlib.Omega.{arith}
use Rattle.std.proofs.Math.ListN.{length}
use borrow.Author.Tests.{eq-eqb, ne_eqb}
use Rattle.keys.specs.declared.Key.{Key}
use Rattle.keys.specs.Number.{Fits}
use Rattle.records.specs.declared.Value.{Value}
use Rattle.records.specs.Numbers.{refusal_number, place_index}
use Rattle.lookup.specs.Get.{addr_of}
use Rattle.insert.specs.Steps.{insert_of, insert_image}
use Rattle.listing.specs.declared.Position.{Position}
use Rattle.listing.specs.Step.{step_of}
use Rattle.texts.specs.declared.Command.{Command}
use Rattle.texts.specs.declared.Command.TheVariants as command
use Rattle.texts.specs.Texts.{full_text, none_text, set_text, entry_text, end_text, refusal_text}
use Rattle.texts.specs.Fitting.{FitsWords, FitsCommand}
use Rattle.lists.specs.Entries.{find, held, list_end}
use Rattle.lists.specs.Answers.{got_from, done_from, entry_from}
use Rattle.lists.specs.Machine.{FitsValue, Entries, full, insert, remove, write}
use Rattle.accepted.specs.Accepted.{Accepted}
use Rattle.accepted_lookup.specs.Answers.{listed, get_agrees, end_agrees}
use Rattle.accepted_write.specs.Call.{write_agrees}
use Rattle.accepted_insert.specs.Call.{insert_agrees}
use Rattle.accepted_remove.specs.Call.{remove_agrees}
use Rattle.accepted_listing.specs.Moments.{Moment, moment_made, moment_gives, moment_stepped}
use Rattle.histories.specs.Agrees.{call_agrees}
use Rattle.histories.specs.Shapes.{at_most}
use Rattle.commands.specs.Answers.{place_text, gone_text, val_text, done_text, one_text, close_text, step_text, list_text, all_text, answer_of, image_after}
use Rattle.accepted_commands.specs.Told.{ok_text, found_text, gone_word, val_word, end_entry_text, entries_text, told_text, told_next}
use Rattle.accepted_commands.specs.Lines.{index_of}

-- ---- the list's answers as text

gone_from : (o : Option Value) → gone_text (got_from o) ≡ found_text gone_word o
unfolding gone_text refusal_text refusal_number
gone_from none = refl
gone_from (some v) = refl

val_from : (o : Option Value) → val_text (got_from o) ≡ found_text val_word o
unfolding val_text refusal_text refusal_number
val_from none = refl
val_from (some v) = refl

set_from : (b : Bool) → done_text (done_from b) ≡ cond b set_text none_text
unfolding done_text refusal_text refusal_number
set_from true = refl
set_from false = refl

one_from : (o : Option (Key × Value)) → one_text (entry_from o) ≡ end_entry_text o
unfolding one_text refusal_text refusal_number
one_from none = refl
one_from (some e) = refl

-- ---- the listing: what is left of the list, entry by entry

-- behind k entries, with room for as many as are left
listed_text : {m n : ℕ} {ws : List ℕ} {p : Position} {list : Entries} (left : Entries) (fuel k : ℕ) → length left ≤ fuel → Moment m n ws p list left
    → list_text m n ws fuel p k ≡ entries_text left ++ end_text (k + length left)
unfolding list_text step_text close_text refusal_number
listed_text [] zero k l x = let z : k + 0 ≡ k = omega arith in rw z
listed_text {m} {n} {ws} {p} [] (suc fuel) k l x =
    let z : k + 0 ≡ k = omega arith in
    rw (moment_gives x false, z)
listed_text (e ∷ left) zero k l x = absurd (omega arith)
listed_text {m} {n} {ws} {p} (e ∷ left) (suc fuel) k l x =
    let z : k + suc (length left) ≡ (k + 1) + length left = omega arith in
    rw (moment_gives x false, z)
    (ap (λ (t : List ℕ). entry_text e.0 e.1 ++ t) (listed_text {p = (step_of false m n ws p).position} left fuel (k + 1) (omega arith) (moment_stepped x false))
    ∙ sym (append_assoc (entry_text e.0 e.1) (entries_text left) (end_text ((k + 1) + length left))))

module _ {m n : ℕ} {ws : List ℕ} (a : Accepted m n ws) where
  all_text_lem : all_text m n ws ≡ entries_text (listed a) ++ end_text (length (listed a))
  unfolding all_text
  all_text_lem =
      let z : 0 + length (listed a) ≡ length (listed a) = omega arith in
      listed_text (listed a) m 0 (at_most a) (moment_made a) ∙ ap (λ (k : ℕ). entries_text (listed a) ++ end_text k) z

  -- ---- an insert

  insert_text : (key : Key) → Fits key → (v : Value) → FitsValue v
      → place_text (insert_of m n ws key) ≡ cond (full m (listed a)) full_text (ok_text (place_index (addr_of m n (insert_image m n ws key v) key)))
  unfolding place_text place_index refusal_text refusal_number
  insert_text key f v g = go (ℕ_discrete (length (listed a)) m)
    where
      go : Dec (length (listed a) ≡ m)
          → place_text (insert_of m n ws key) ≡ cond (full m (listed a)) full_text (ok_text (place_index (addr_of m n (insert_image m n ws key v) key)))
      go (yes e) = rw (((insert_agrees a key f v g).0 e).0, eq-eqb (length (listed a)) m e)
      go (no d) =
          let r = (insert_agrees a key f v g).1 d in
          rw (r.1, r.2.2, ne_eqb (length (listed a)) m d)

  -- ---- every command

  value_fits : (v : Value) → FitsWords v → FitsValue v
  value_fits v f = record { first_fits = f.0; second_fits = f.1 }

  -- the answer's bytes are those that the list is told to answer
  pub command_text : (c : Command) → FitsCommand c → answer_of m n ws c ≡ told_text m (listed a) c (index_of m n ws c)
  unfolding answer_of
  command_text (command.Insert key v) f = insert_text key f.0 v (value_fits v f.1)
  command_text (command.Remove key) f = ap gone_text (remove_agrees a key).0 ∙ gone_from (find key (listed a))
  command_text (command.Get key) f = ap val_text (get_agrees a key) ∙ val_from (find key (listed a))
  command_text (command.Write key v) f = ap done_text (write_agrees a key v (value_fits v f.1)).0 ∙ set_from (held key (listed a))
  command_text command.Smallest f = ap one_text (end_agrees a false) ∙ one_from (list_end false (listed a))
  command_text command.Largest f = ap one_text (end_agrees a true) ∙ one_from (list_end true (listed a))
  command_text command.All f = all_text_lem
  command_text command.Bad f = refl

  -- the image is accepted, with the list's next state
  pub command_image : (c : Command) → FitsCommand c → (b : Accepted m n (image_after m n ws c)) × (listed b ≡ told_next m (listed a) c)
  unfolding image_after
  command_image (command.Insert key v) f = (call_agrees a (insert key v) (f.0, value_fits v f.1)).1
  command_image (command.Remove key) f = (call_agrees a (remove key) tt).1
  command_image (command.Get key) f = (a, refl)
  command_image (command.Write key v) f = (call_agrees a (write key v) (value_fits v f.1)).1
  command_image command.Smallest f = (a, refl)
  command_image command.Largest f = (a, refl)
  command_image command.All f = (a, refl)
  command_image command.Bad f = (a, refl)
