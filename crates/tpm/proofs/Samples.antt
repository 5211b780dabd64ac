-- The codes of some calls before H_RESOURCE, in a memory of 8,192 bytes. Assumes nothing.
use Prim.Native.Nat.{ℕ}
use mathlib.Core.Path.{◌≡◌, refl}
use mathlib.Core.Bool.{false}
use Rattle.words.specs.Tests.{either}
use Rattle.tpm.specs.declared.ReturnCode.{ReturnCode}
use Rattle.tpm.specs.declared.ReturnCode.TheVariants.{Success, Parameter, P2, P3, P4, P5}
use Rattle.tpm.specs.ReturnCodes.{returns_if}
use Rattle.tpm.specs.Comm.{is_execute, is_close, buffer_checks, buffers_checks, call_checks, request_code}

abbrev asking : ℕ → ℕ → ℕ → ℕ → ℕ → ReturnCode
asking operation inbuffer insize outbuffer outsize =
    request_code (record { operation = operation; inbuffer = inbuffer; insize = insize; outbuffer = outbuffer; outsize = outsize }) 8192
    false

-- both buffers at one address; a request of no bytes; close checks no buffer; an operation in the low half only; a request at the end; one past all
-- 64-bit sums; too large; past the end; an output at the end; too small; past the end
pub samples :
    (asking 1 4096 4096 4096 4096 ≡ Success)
    × (asking 1 8191 0 0 8192 ≡ Success)
    × (asking 2 9000 9000 9000 0 ≡ Success)
    × (asking 0x1_0000_0001 0 16 4096 4096 ≡ Parameter)
    × (asking 1 8192 0 4096 4096 ≡ P2)
    × (asking 1 0xFFFF_FFFF_FFFF_FFFF 1 4096 4096 ≡ P2)
    × (asking 1 8191 0xFFFF_FFFF_FFFF_FFFF 9000 0 ≡ P3)
    × (asking 1 0 4097 9000 0 ≡ P3)
    × (asking 1 8000 193 9000 0 ≡ P3)
    × (asking 1 8000 192 8192 0 ≡ P4)
    × (asking 1 8000 192 0 4095 ≡ P5)
    × (asking 1 8000 192 4097 4096 ≡ P5)
    × (asking 1 8000 192 4096 0xFFFF_FFFF_FFFF_FFFF ≡ P5)
unfolding request_code call_checks buffers_checks buffer_checks returns_if either is_execute is_close
samples = (refl, refl, refl, refl, refl, refl, refl, refl, refl, refl, refl, refl, refl)
