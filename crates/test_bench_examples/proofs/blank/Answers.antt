-- `blank` is as long as its type says.
use Rattle.std.proofs.Common.{ℕ, sym}
use Rattle.std.proofs.lemmas.List.{length-replicate}
use Rattle.test_bench_examples.proofs.blank.Goals as goal

pub returns : goal.returns
returns c = sym (length-replicate {0} {A = ℕ} 524368 0)
