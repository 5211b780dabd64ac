-- Cold and warm boot. "The boot record is fresh, up or closed; it keeps x2, B and the agreed minor when up. Any boot
-- error closes it for good." (BT1, BT6) Request E5: "Cold boot shall take a number K of kept bytes at the start of the page, and the boot
-- record keeps it." (KB1) Assumes nothing.
use Rattle.std.specs.Prelude.{ℕ, Bool, true, false, cond, List, leb, ltb, ℤ, pos, negsuc, Result, Ok, Err, ⊤}
use Rattle.versions.specs.Version.{version_ok, agreed}
use Rattle.reader.specs.Answer.{minus, code_in, read_of}
use Rattle.reader.specs.Reading.{refusal_number}
use Rattle.boot.specs.declared.Params.{Params}
use Rattle.boot.specs.declared.Record.{Record}
use Rattle.boot.specs.declared.Record.TheVariants.{Fresh, Up, Closed}
use Rattle.boot.specs.declared.BootRefusal.{BootRefusal}
use Rattle.boot.specs.declared.BootRefusal.TheVariants.{State, Version, Cpus, Cpu, Manifest}

-- the number of each refusal (BT2)
abbrev pub refused_number : BootRefusal → ℤ
refused_number State = minus 1
refused_number Version = minus 2
refused_number Cpus = minus 3
refused_number Cpu = minus 4
refused_number (Manifest c) = refusal_number c

-- the number of an outcome: 0, or that of the refusal (BT2)
abbrev pub boot_number : Result ⊤ BootRefusal → ℤ
boot_number (Ok u) = pos 0
boot_number (Err c) = refused_number c

-- whether the record is fresh
unfoldable pub is_fresh : Record → Bool
is_fresh Fresh = true
is_fresh (Up u) = false
is_fresh Closed = false

-- "in this order of checks": -1 the record is not fresh (BT2.1), -2 "x1 above 32 bits or version not accepted" (BT2.2), -3 "x2 above the
-- monitor's maximum" (BT2.3), -4 "x0 not below x2" (BT2.4), then the page. Request E5: "K above 4,096 is -5 at cold boot, with the other
-- page checks." (BT2.5) "Cold boot reads as edition 4." (BT2.7)
unfoldable pub cold_gate : Bool → Bool → Bool → Bool → Bool → ℤ → ℤ
cold_gate true true true true true c = c
cold_gate true true true true false c = minus 5
cold_gate true true true false k c = minus 4
cold_gate true true false n k c = minus 3
cold_gate true false m n k c = minus 2
cold_gate false v m n k c = minus 1

-- the code of a cold boot (BT2): x0 is the CPU, x1 the version offered, x2 the number of CPUs, x3 the base B, `maxcpus` the monitor's
-- maximum, `kept` K
unfoldable pub cold_code : (state : Record) (x0 x1 x2 x3 maxcpus kept : ℕ) (page : List ℕ) → ℤ
cold_code s x0 x1 x2 x3 most kept page =
    cold_gate (is_fresh s) (version_ok x1) (leb x2 most) (ltb x0 x2) (leb kept 4096) (code_in (read_of 4 x3 page))

-- the record after a boot with code c: s if c is 0, otherwise closed (BT6)
unfoldable pub after : ℤ → Record → Record
after (pos n) s = s
after (negsuc n) s = Closed

-- "it keeps x2, B and the agreed minor when up" (BT3); request E5: K, "and the boot record keeps it" (KB1)
unfoldable pub params_of : (x1 x2 x3 kept : ℕ) → Params
params_of x1 x2 x3 kept = record { cpus = x2; base = x3; minor = agreed x1; kept = kept }

-- the record after a cold boot (BT3, BT6)
unfoldable pub cold_next : (state : Record) (x0 x1 x2 x3 maxcpus kept : ℕ) (page : List ℕ) → Record
cold_next s x0 x1 x2 x3 most kept page = after (cold_code s x0 x1 x2 x3 most kept page) (Up (params_of x1 x2 x3 kept))

-- the CPU check of a warm boot: -4 "x0 not below the cold boot's x2" (BT4.2)
unfoldable pub cpu_code : ℕ → ℕ → ℤ
cpu_code cpus x0 = cond (ltb x0 cpus) (pos 0) (minus 4)

-- -1 the record is not up (BT4.1), then -4 (BT4.2). "x1 to x3 at warm boot are ignored. A CPU may warm boot twice." (BT5)
unfoldable pub warm_code : Record → ℕ → ℤ
warm_code Fresh x0 = minus 1
warm_code (Up u) x0 = cpu_code u.cpus x0
warm_code Closed x0 = minus 1

-- the record after a warm boot (BT5, BT6)
unfoldable pub warm_next : Record → ℕ → Record
warm_next s x0 = after (warm_code s x0) s
