-- What parsing tells of an arm64 word.
-- Assumes nothing.
use Prim.Native.Nat.{ℕ}
use mathlib.Core.Path.{◌≡◌, ap}
use Rattle.opcodes.specs.WordsArm64.{Word, parse_of}
use Rattle.rules.specs.RulesArm64.{by_word, rule_of}

-- the rule goes by what parsing tells
pub rule_of_told : (w : ℕ) (t : Word) → t ≡ parse_of w → by_word t ≡ rule_of w
unfolding rule_of
rule_of_told w t e = ap by_word e
