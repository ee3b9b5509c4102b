-- docs/FORMAT.md, 10.2 and 10.3: one step by a rule, on every machine.
-- Assumes nothing.
use Rattle.std.specs.Prelude.{ℕ, ◌+◌, List, cond, eqb, Result}
use Rattle.frame.specs.Frame as frame
use Rattle.frame.specs.Frame.{Regs, anchored, step_at}
use Rattle.rules.specs.Answers.{Number, numbered, outcome_of, Ruling}
use Rattle.rules.specs.declared.Refusal.{Refusal}

-- What a step tells: 0 with the caller's registers, or a refusal with the registers unchanged.
pub record Told : Type 0 where
  pub refusal : Number
  pub regs : Regs

abbrev pub regs_of : ℕ → ℕ → List ℕ → Regs
regs_of pc sp kept = record { pc = pc; sp = sp; kept = kept }

-- 26 and 27 carry nothing.
abbrev pub valueless : frame.Told → Told
valueless t = record { refusal = numbered t.number 0; regs = t.regs }

-- One step by a rule, over slots of w bytes: a word without a rule is refused first, then 26, then 27.
abbrev pub step_by : ℕ → Ruling → ℕ → List ℕ → Regs → Told
step_by w u base mem r =
    cond (eqb u.refusal.number 0)
    (valueless (step_at w base mem (anchored u.anchor r + u.distance) u.return u.below r))
    (record { refusal = u.refusal; regs = r })

-- The answer, beside the registers after it.
abbrev pub step_told : Result (Unit {0}) Refusal → Regs → Told
step_told answer r = record { refusal = outcome_of answer; regs = r }
