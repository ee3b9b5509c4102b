-- docs/FORMAT.md, 2.1: the view, a section together with its two list places.
-- Assumes nothing.
use Rattle.std.specs.Prelude.{ℕ, List}
use Rattle.std.specs.Borrow.{Bor}
use Rattle.raw.specs.declared.Lists.{Lists}
use Rattle.raw.specs.Checked.{Checked, good, ◌>>=◌}
use Rattle.macho_unwind_info.specs.declared.view.UnwindInfo.{UnwindInfo}

abbrev pub view_of : Bor (List ℕ) → Lists → UnwindInfo
view_of s l = record { section = s; lists = l }

-- of lists that were parsed
abbrev pub viewed : Bor (List ℕ) → Checked Lists → Checked UnwindInfo
viewed s p = do
  l ← p
  good (view_of s l)
