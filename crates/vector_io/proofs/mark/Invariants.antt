use Rattle.std.proofs.Common.{◌≡◌, ◌%◌, ◌<◌, length, drop}
use Rattle.vector_io.specs.Cases.{digits}
use Rattle.vector_io.proofs.mark.Given as goal

abbrev pub invariant-loop-byte : goal.invariant-loop-byte
invariant-loop-byte l = (l.high < 0xFFFF_FFFB) × (l.low < 0xFFFF_FFFB)
    × (digits 0x9E37_79B1 (length l.part % 0xFFFF_FFFB) l.part ≡ digits 0x9E37_79B1 l.high (drop l.byte-index l.part))
    × (digits 0x85EB_CA77 (length l.part % 0xFFFF_FFFB) l.part ≡ digits 0x85EB_CA77 l.low (drop l.byte-index l.part))
