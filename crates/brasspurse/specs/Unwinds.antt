-- What the combined calls tell (docs/FORMAT.md, 10.4), as the flat structs of include/brasspurse.h.
-- Assumes nothing.
use Rattle.macho_unwind_info.specs.Unwind.{Unwound}
use Rattle.brasspurse.specs.declared.unwind.UnwindX86_64Answer.{UnwindX86_64Answer}
use Rattle.brasspurse.specs.declared.unwind.«UnwindArm64Answer».{«UnwindArm64Answer»}

abbrev pub unwind_x86_answer : Unwound → UnwindX86_64Answer
unwind_x86_answer u =
    record { refusal = u.refusal.number; value = u.refusal.value; probes = u.probes; registers = record { rip = u.regs.pc; rsp = u.regs.sp; saved = u.regs.kept } }

abbrev pub unwind_arm64_answer : Unwound → «UnwindArm64Answer»
unwind_arm64_answer u =
    record { refusal = u.refusal.number; value = u.refusal.value; probes = u.probes; registers = record { pc = u.regs.pc; sp = u.regs.sp; saved = u.regs.kept } }
