-- Where a page entry is read from the list of pages: its numbers are the section's.
-- Assumes nothing.
use Prim.Native.Nat.{ℕ, suc, ◌+◌}
use mathlib.Core.Path.{◌≡◌, ap, ◌∙◌}
use mathlib.Core.List.{List}
use native.Mathlib.Omega.{arith}
use Rattle.raw.specs.declared.Lists.{Lists}
use Rattle.raw.specs.declared.Page.{Page}
use Rattle.raw.specs.declared.PageEntry.{PageEntry}
use Rattle.raw.specs.Checked.{Checked}
use Rattle.raw.specs.Raw.{pages_of, first_in, offset_in, entry_of, open_of}
use Rattle.entries.specs.Section.{first_of, offset_of, opened_at}

module _ (s : List ℕ) (l : Lists) (p : ℕ) (pages : List ℕ) (ep : pages ≡ pages_of s l) (entry : PageEntry) (ee : entry ≡ entry_of pages p) where
  pub first-is : entry.first ≡ first_of s l p
  unfolding first_of
  first-is = ap (λ (e : PageEntry). e.first) ee ∙ ap (λ (q : List ℕ). first_in q p) ep

  pub offset-is : entry.offset ≡ offset_of s l p
  unfolding offset_of
  offset-is = ap (λ (e : PageEntry). e.offset) ee ∙ ap (λ (q : List ℕ). offset_in q p) ep

  pub next-is : entry.next ≡ first_of s l (suc p)
  unfolding first_of
  next-is =
      let q : p + 1 ≡ suc p = omega arith in
      ap (λ (e : PageEntry). e.next) ee ∙ ap (first_in pages) q ∙ ap (λ (q : List ℕ). first_in q (suc p)) ep

  -- page p, opened
  pub opens-there : (w : Checked Page) → w ≡ open_of s entry.offset entry.first → w ≡ opened_at s l p
  unfolding opened_at
  opens-there w e = e ∙ ap (open_of s entry.offset) first-is ∙ ap (λ (o : ℕ). open_of s o (first_of s l p)) offset-is
