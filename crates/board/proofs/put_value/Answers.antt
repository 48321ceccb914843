-- `board::put_value` meets its contract. Assumes nothing.
use mathlib.Core.Path.{◌∙◌, ap}
use Rattle.board.specs.Output.{put_wide, put_value}
use Rattle.board.proofs.put_value.Goals as goal

pub returns : goal.returns
returns c = c.put_wide-2.ensures ∙ ap (λ b. put_wide b 8 c.args.v.second) c.put_wide.ensures ∙ put_value c.args.out.now c.args.v c.requires
