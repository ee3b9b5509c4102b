-- `replay_opcodes::room_for_input` meets its contract, by the lemma: to compute so long a list's length takes more than a check has.
-- Assumes nothing.
use Rattle.std.proofs.Common.{ℕ, sym}
use Rattle.std.proofs.lemmas.List.{length-replicate}
use Rattle.replay_opcodes.proofs.room_for_input.Goals as goal

pub returns : goal.returns
returns c = sym (length-replicate {0} {A = ℕ} 524288 0)
