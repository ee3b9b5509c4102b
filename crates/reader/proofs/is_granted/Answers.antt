-- `reader::is_granted` meets its contract: at each return the tests that led there say how the sum compares with the length.
-- Assumes nothing.
use native.Mathlib.Omega.{arith}
use mathlib.Core.Path.{sym}
use Prim.Native.Nat.{◌+◌}
use borrow.Author.Tests.{lt-leb, le-leb}
use lib.ListN.{length}
use Rattle.reader.specs.Reader.{granted_of}
use Rattle.reader.proofs.is_granted.Goals as goal

pub returns-then-s-n : goal.returns-then-s-n
unfolding granted_of
returns-then-s-n c =
    let a = c.args in
    sym (lt-leb (a.offset + a.n) (length a.s.now) (omega arith))

pub returns-then-s-n-2 : goal.returns-then-s-n-2
unfolding granted_of
returns-then-s-n-2 c =
    let a = c.args in
    sym (lt-leb (a.offset + a.n) (length a.s.now) (omega arith))

pub returns : goal.returns
unfolding granted_of
returns c =
    let a = c.args in
    sym (le-leb (a.offset + a.n) (length a.s.now) (omega arith))
