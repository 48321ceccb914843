-- The command program is the list: from its first state, on whatever bytes come in.
use Rattle.std.specs.Prelude.{◌≡◌, refl, List, [], ◌∷◌, ◌++◌, map, ℕ, length, get_or}
use Rattle.std.proofs.Common.{sym, ap, subst, ◌∙◌, arith}
use Rattle.records.specs.Layout.{image_of}
use Rattle.lookup.specs.Start.{start_image}
use Rattle.texts.specs.declared.Command.{Command}
use Rattle.texts.specs.Lines.{command_of}
use Rattle.texts.specs.Fitting.{FitsCommand, asked_fits}
use Rattle.lists.specs.Lists.{All}
use Rattle.lists.specs.Answers.{Answer}
use Rattle.lists.specs.Machine.{start, Entries, blank, holding}
use Rattle.histories.specs.Agrees.{Is, agrees}
use Rattle.histories.specs.NotEmpty.{Limits, zero_words, zeros_are}
use Rattle.histories.specs.Demands.{holding_accepted}
use Rattle.lent.specs.Histories.{Ran, blank_bytes}
use Rattle.lent.specs.Histories as lent
use Rattle.commands.specs.Answers.{answer_of, image_after}
use Rattle.commands.specs.Session.{input_image}
use Rattle.accepted_commands.specs.Told.{told_text, told_next, told_all, told_then, lines_of, commands_in}
use Rattle.accepted_commands.specs.Lines.{index_of, answers_text, image_behind, indexed, input_lines, input_behind}
use Rattle.accepted_commands.specs.Agrees.{command_text, command_image}
use Rattle.accepted_commands.specs.Program.{ProgramIs}

-- ---- commands one after the other, from an accepted image on

module _ {m n : ℕ} where
  one_text_lem : {ws : List ℕ} {es : Entries} → Is m n ws (holding es) → (c : Command) → FitsCommand c → answer_of m n ws c ≡ told_text m es c (index_of m n ws c)
  one_text_lem {ws} x c f = command_text x.0 c f ∙ ap (λ (es : Entries). told_text m es c (index_of m n ws c)) x.1

  one_image : {ws : List ℕ} {es : Entries} → Is m n ws (holding es) → (c : Command) → FitsCommand c → Is m n (image_after m n ws c) (holding (told_next m es c))
  one_image x c f = let r = command_image x.0 c f in (r.0, r.1 ∙ ap (λ (es : Entries). told_next m es c) x.1)

  all_texts : {ws : List ℕ} {es : Entries} → Is m n ws (holding es) → (cs : List Command) → All FitsCommand cs → answers_text m n ws cs ≡ told_all m es (indexed m n ws cs)
  all_texts x [] f = refl
  all_texts {ws = ws} x (c ∷ cs) f =
      let here = one_text_lem x c f.0 in
      let rest = all_texts {ws = image_after m n ws c} (one_image x c f.0) cs f.1 in
      λ ι. here ι ++ rest ι

  all_images : {ws : List ℕ} {es : Entries} → Is m n ws (holding es) → (cs : List Command) → All FitsCommand cs → Is m n (image_behind m n ws cs) (holding (told_then m es cs))
  all_images x [] f = x
  all_images {ws = ws} x (c ∷ cs) f = all_images {ws = image_after m n ws c} (one_image x c f.0) cs f.1

-- what lines ask fits, whatever bytes they have
lines_fit : (lines : List (List ℕ)) → All FitsCommand (map command_of lines)
lines_fit [] = tt
lines_fit (line ∷ lines) = (asked_fits line, lines_fit lines)

begins : (m n : ℕ) (ws : List ℕ) → Is m n ws blank → Is m n (start_image m n ws) (holding [])
begins m n ws i = (agrees m n ws blank i start tt).1

from_start : (m n : ℕ) (ws : List ℕ) → Is m n ws blank → (input : List ℕ) → ProgramIs m n (start_image m n ws) input
from_start m n ws i input =
    let fits = lines_fit (lines_of [] input) in
    let x : Is m n (input_image m n (start_image m n ws) input) (holding (told_then m [] (commands_in input))) =
    subst (λ (vs : List ℕ). Is m n vs (holding (told_then m [] (commands_in input)))) (sym (input_behind m n (start_image m n ws) input)) (all_images (begins m n ws i) (commands_in input) fits) in
    record {
      answers = input_lines m n (start_image m n ws) input ∙ all_texts (begins m n ws i) (commands_in input) fits;
      state = holding_accepted x.0 (told_then m [] (commands_in input)) x.1;
      next = λ line. one_text_lem x (command_of line) (asked_fits line);
    }

limits : Limits 256 512
limits = record { some = omega arith; most = omega arith; twice = omega arith; nodes_most = omega arith }

-- The program's first state is a buffer of 32,816 zero bytes, M 256 and N 512, that `start` was called on (`main`, crate `logfringe`): of `start` nothing is asked but what its contract says.
pub program_is_the_list : (zeros img : List ℕ) (a : Answer) → length zeros ≡ 32816 → ((k : ℕ) → get_or zeros k 0 ≡ 0) → Ran 256 512 lent.start zeros a img
    → (input : List ℕ) → ProgramIs 256 512 (image_of img) input
program_is_the_list zeros img a long each r input =
    subst (λ (ws : List ℕ). ProgramIs 256 512 ws input) (sym r.1.words) (from_start 256 512 (image_of zeros) (blank_bytes 256 512 limits zeros long each) input)

-- The same in words, as the test of pieces begins (`run`, crate `test_lines`).
pub program_on_zero_words : (input : List ℕ) → ProgramIs 256 512 (start_image 256 512 (zero_words 256 512)) input
program_on_zero_words input = from_start 256 512 (zero_words 256 512) (zeros_are 256 512 limits) input
