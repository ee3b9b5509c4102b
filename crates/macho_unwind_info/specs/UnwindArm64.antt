-- docs/FORMAT.md, 10.4: the combined call on arm64.
-- Assumes nothing.
use Rattle.std.specs.Prelude.{ℕ, List}
use Rattle.lookup.specs.Lookup.{lookup_on}
use Rattle.frame.specs.Frame.{Regs}
use Rattle.step.specs.StepsArm64.{step_of}
use Rattle.macho_unwind_info.specs.Unwind.{Unwound, unwind_by}

unfoldable pub unwind_of : (section : List ℕ) → (address base : ℕ) → (window : List ℕ) → Regs → Unwound
unwind_of section address base window r = unwind_by (λ w. step_of w base window r) r (lookup_on section address)
