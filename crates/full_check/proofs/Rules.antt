-- What the code is proved by, named once for each function.
use Rattle.words.specs.Words.{words_length}
use Rattle.inspection.specs.Room.{room, image_words, shaped_opens}
use Rattle.full_check.specs.Walked.{damaged, refused, counted, below, at_leaf, falls_below, leaf_names}
use Rattle.full_check.specs.Scratch.{first_fits, first_long, first_many}
use Rattle.full_check.specs.Promises.{opened_answer, opened_scratch, shut_answer, shut_scratch}

-- `walk`, but for the two ways in which a left half ends
pub ruleset ends = (damaged, refused, counted, below, at_leaf, falls_below, leaf_names)

-- `opened_check`
pub ruleset opening = (room, image_words, shaped_opens)

-- `check`
pub ruleset outcomes = (words_length, first_fits, first_long, first_many, opened_answer, opened_scratch, shut_answer, shut_scratch)
