-- The command program is the list. From the program's first state, whatever bytes come in: its own map is always accepted and holds what the list then holds, and the bytes of every answer are those that
-- the list is told to answer. So `bad` answers the lines that are bad and no other, `a` is ascending and complete, and COUNT is n.
use Rattle.std.specs.Prelude.{◌≡◌, refl, List, [], ◌∷◌, ◌++◌, ◌≢◌, ◌↔◌, Bool, true, false, cond, ℕ, ◌≤◌, length, get_or}
use Rattle.std.proofs.Common.{sym, ap, ◌∙◌, arith, length-append}
use Rattle.std.proofs.Math.Option.{Option, none, some}
use Rattle.keys.specs.declared.Key.{Key}
use Rattle.records.specs.declared.Value.{Value}
use Rattle.records.specs.Numbers.{place_index}
use Rattle.records.specs.Records.{node_of, leaf_node}
use Rattle.texts.specs.declared.Command.{Command}
use Rattle.texts.specs.declared.Command.TheVariants as command
use Rattle.texts.specs.Digits.{digits_length}
use Rattle.texts.specs.Lines.{command_of}
use Rattle.texts.specs.Texts.{bad_text, full_text, none_text, set_text, pair_text, value_text, entry_text, end_text}
use Rattle.texts.specs.Fitting.{FitsCommand}
use Rattle.lists.specs.Entries.{find, held, list_end}
use Rattle.lists.specs.Machine.{Entries, full, holding}
use Rattle.accepted_lookup.specs.Answers.{listed}
use Rattle.accepted_insert.specs.Call.{insert_agrees}
use Rattle.histories.specs.Agrees.{Is}
use Rattle.histories.specs.Indexes.{address_names}
use Rattle.histories.specs.Demands.{Holding}
use Rattle.commands.specs.Answers.{answer_of, image_after}
use Rattle.commands.specs.Session.{input_text, input_image}
use Rattle.accepted_commands.specs.Told.{ok_text, found_text, gone_word, val_word, end_entry_text, entries_text, told_text, told_all, told_then, commands_in}
use Rattle.accepted_commands.specs.Lines.{index_of, indexed}

-- ---- `bad`

-- a line with an entry is 66 bytes
entry_long : (key : Key) (v : Value) → length (entry_text key v) ≡ 66
unfolding entry_text value_text pair_text
entry_long key v = simp (length-append, digits_length)

-- its first byte or its length tells a text from `bad`
other_byte : (text : List ℕ) → get_or text 0 0 ≢ 98 → text ≢ bad_text
other_byte text d e = d (ap (λ (t : List ℕ). get_or t 0 0) e)

longer : (text : List ℕ) → 66 ≤ length text → text ≢ bad_text
longer text l e = let z : length text ≡ 4 = ap length e in omega arith

-- `bad` answers the lines that are bad and no other
pub bad_exactly : (m : ℕ) (es : Entries) (c : Command) (i : ℕ) → (told_text m es c i ≡ bad_text) ↔ (c ≡ command.Bad)
unfolding end_text
bad_exactly m es c i = (only c, λ e. rw e)
  where
    insert_other : (b : Bool) → cond b full_text (ok_text i) ≢ bad_text
    insert_other true = other_byte full_text (λ e. omega arith)
    insert_other false = other_byte (ok_text i) (λ e. omega arith)

    gone_other : (o : Option Value) → found_text gone_word o ≢ bad_text
    gone_other none = other_byte none_text (λ e. omega arith)
    gone_other (some v) = other_byte (gone_word ++ value_text v) (λ e. omega arith)

    val_other : (o : Option Value) → found_text val_word o ≢ bad_text
    val_other none = other_byte none_text (λ e. omega arith)
    val_other (some v) = other_byte (val_word ++ value_text v) (λ e. omega arith)

    set_other : (b : Bool) → cond b set_text none_text ≢ bad_text
    set_other true = other_byte set_text (λ e. omega arith)
    set_other false = other_byte none_text (λ e. omega arith)

    end_other : (o : Option (Key × Value)) → end_entry_text o ≢ bad_text
    end_other none = other_byte none_text (λ e. omega arith)
    end_other (some x) = longer (entry_text x.0 x.1) (omega (arith, entry_long x.0 x.1))

    all_other : (l : Entries) (k : ℕ) → entries_text l ++ end_text k ≢ bad_text
    all_other [] k = other_byte (end_text k) (λ e. omega arith)
    all_other (x ∷ l) k =
        longer ((entry_text x.0 x.1 ++ entries_text l) ++ end_text k)
        (omega (
          arith,
          entry_long x.0 x.1,
          length-append (entry_text x.0 x.1) (entries_text l),
          length-append (entry_text x.0 x.1 ++ entries_text l) (end_text k),
        ))

    only : (c : Command) → told_text m es c i ≡ bad_text → c ≡ command.Bad
    only (command.Insert key v) e = absurd (insert_other (full m es) e)
    only (command.Remove key) e = absurd (gone_other (find key es) e)
    only (command.Get key) e = absurd (val_other (find key es) e)
    only (command.Write key v) e = absurd (set_other (held key es) e)
    only command.Smallest e = absurd (end_other (list_end false es) e)
    only command.Largest e = absurd (end_other (list_end true es) e)
    only command.All e = absurd (all_other es (length es) e)
    only command.Bad e = refl

-- ---- `ok INDEX`

-- where the list has room, INDEX names the node that is the key's leaf in the image behind the line
pub index_names : {m n : ℕ} {ws : List ℕ} {es : Entries} → Is m n ws (holding es) → (key : Key) (v : Value) → FitsCommand (command.Insert key v) → length es ≢ m
    → (up r : ℕ) × (node_of (image_after m n ws (command.Insert key v)) (index_of m n ws (command.Insert key v)) ≡ leaf_node up key r)
unfolding image_after place_index
index_names {m} {n} {ws} x key v f d =
    let room : length (listed x.0) ≢ m = λ e. d (sym (ap length x.1) ∙ e) in
    let r = (insert_agrees x.0 key f.0 v (record { first_fits = f.1.0; second_fits = f.1.1 })).1 room in
    let leaf = address_names r.2.0 key f.0 r.0 r.2.2 in
    rw r.2.2 leaf

-- ---- from the first state on: blank memory that start was called on

-- The program on an input, whatever bytes it has, from the image `first` on. That it is so: `program_is_the_list` (proofs/Program).
pub record ProgramIs (m n : ℕ) (first input : List ℕ) : Type 0 where
  -- what it answers is what the list is told to answer, each insert with the index of its key's node
  pub answers : input_text m n first input ≡ told_all m [] (indexed m n first (commands_in input))
  -- its map holds what the list then holds: it is accepted, its entries ascend, n is their number
  pub state : Holding m n (input_image m n first input) (told_then m [] (commands_in input))
  -- and so the next line is answered, whatever it is
  pub next : (line : List ℕ)
      → answer_of m n (input_image m n first input) (command_of line)
      ≡ told_text m (told_then m [] (commands_in input)) (command_of line) (index_of m n (input_image m n first input) (command_of line))
