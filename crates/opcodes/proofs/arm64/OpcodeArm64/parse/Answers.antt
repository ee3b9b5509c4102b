-- `opcodes::arm64::OpcodeArm64::parse` meets its contract: in each arm the case is known.
-- Assumes nothing.
use native.Mathlib.Omega.{arith}
use Rattle.opcodes.proofs.NumbersArm64.{said, said-last}
use Rattle.opcodes.proofs.arm64.OpcodeArm64.parse.Goals as goal

pub returns-in-1 : goal.returns-in-1
returns-in-1 c = said _ 1 _ c.parse-word.ensures c.in-1.is

pub returns-in-3 : goal.returns-in-3
returns-in-3 c = said _ 3 _ c.parse-word.ensures c.in-3.is

pub returns-in_default : goal.returns-in_default
returns-in_default c = said-last _ _ c.parse-word.ensures (omega arith)
