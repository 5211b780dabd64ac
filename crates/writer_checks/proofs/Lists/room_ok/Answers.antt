use Rattle.std.proofs.Common.{sym, refl, arith}
use Rattle.versions.specs.Edition.{core}
use Rattle.writer_checks.proofs.Described.{marked_more, room-not, room-same}
use Rattle.writer_checks.proofs.Lists.room_ok.Goals as goal

pub returns-then-fields-gt-PAGE_LEN : goal.returns-then-fields-gt-PAGE_LEN
returns-then-fields-gt-PAGE_LEN c =
    let a = c.args in
    sym (room-not a.e.minor (core a.e.minor) a.self.dram.now a.self.console.now a.self.ncoh.now a.self.coh.now a.fields.now refl
    (omega (arith, marked_more a.fields.now)))

pub returns-then-left-marked : goal.returns-then-left-marked
returns-then-left-marked c =
    let a = c.args in
    let s = c.core_size in
    sym (room-not a.e.minor s.result a.self.dram.now a.self.console.now a.self.ncoh.now a.self.coh.now a.fields.now s.ensures.0
    (omega (arith, c.marked_size-marked.ensures)))

pub returns : goal.returns
returns c =
    let a = c.args in
    let s = c.core_size in
    let m = c.marked_size-marked in
    room-same a.e.minor s.result a.self.dram.now a.self.console.now a.self.ncoh.now a.self.coh.now a.fields.now s.ensures.0 _ _
    (rw c.lens.ensures at c.fits.ensures) (omega (arith, m.ensures)) (omega (arith, m.ensures))
