-- `opcodes::x86_64::OpcodeX86_64::parse` meets its contract: in each arm the case is known.
-- Assumes nothing.
use native.Mathlib.Omega.{arith}
use Rattle.opcodes.proofs.NumbersX86.{said, said-last}
use Rattle.opcodes.proofs.x86_64.OpcodeX86_64.parse.Goals as goal

pub returns-in-0 : goal.returns-in-0
returns-in-0 c = said _ 0 _ c.parse-word.ensures c.in-0.is

pub returns-in-1 : goal.returns-in-1
returns-in-1 c = said _ 1 _ c.parse-word.ensures c.in-1.is

pub returns-in-2 : goal.returns-in-2
returns-in-2 c = said _ 2 _ c.parse-word.ensures c.in-2.is

pub returns-in-3 : goal.returns-in-3
returns-in-3 c = said _ 3 _ c.parse-word.ensures c.in-3.is

pub returns-in-4 : goal.returns-in-4
returns-in-4 c = said _ 4 _ c.parse-word.ensures c.in-4.is

pub returns-in-5 : goal.returns-in-5
returns-in-5 c = said _ 5 _ c.parse-word.ensures c.in-5.is

pub returns-in_default : goal.returns-in_default
returns-in_default c = said-last _ _ c.parse-word.ensures (omega arith)
