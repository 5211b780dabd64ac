-- What is proved of one call of H_TPM_COMM, without its chain of checks. Quotes are from request E9 or the H_TPM_COMM document. Assumes
-- nothing.
use Rattle.std.specs.Prelude.{ℕ, ◌+◌, ◌≤◌, ◌<◌, ◌≡◌, Bool, true, false, List, ◌⊎◌, length, take, drop}
use Rattle.words.specs.Word.{part}
use Rattle.tpm.specs.declared.ReturnCode.{ReturnCode}
use Rattle.tpm.specs.declared.ReturnCode.TheVariants.{Success, Function, Parameter, P2, P3, P4, P5, Resource}
use Rattle.tpm.specs.declared.Arguments.{Arguments}
use Rattle.tpm.specs.declared.TpmSession.{TpmSession}
use Rattle.tpm.specs.declared.TpmSession.TheVariants.{Open}
use Rattle.tpm.specs.Comm.{CommStep}

-- ---- when a call is accepted
-- a buffer that starts inside a memory of `n` bytes and ends within it
pub record Within (start size n : ℕ) : Type 0 where
  pub begins : start < n
  pub ends : start + size ≤ n

-- "both buffers lie inside guest memory", with sizes that the H_TPM_COMM document allows: "Must be less than or equal to 4KB", "Must be at
-- least 4KB" (TP3.3 to TP3.6)
pub record Placed (a : Arguments) (n : ℕ) : Type 0 where
  pub input : Within a.inbuffer a.insize n
  pub output : Within a.outbuffer a.outsize n
  pub short : a.insize ≤ 4096
  pub wide : 4096 ≤ a.outsize

-- an execute with both buffers in place, no fault of the platform, and room for the response (TP3.3 to TP3.7)
pub record Executes (a : Arguments) (memory response : List ℕ) (fault : Bool) : Type 0 where
  pub execute : a.operation ≡ 1
  pub placed : Placed a (length memory)
  pub works : fault ≡ false
  pub room : length response ≤ a.outsize

-- access is allowed, and the call is a close or an execute as above
pub record CommAccepts (a : Arguments) (memory response : List ℕ) (forbidden fault : Bool) : Type 0 where
  pub allowed : forbidden ≡ false
  pub kind : (a.operation ≡ 2) ⊎ Executes a memory response fault

-- ---- why a call returns its code: its condition in TP3, and none of the conditions before it
-- an execute that the platform allows
pub record Reached (a : Arguments) (forbidden : Bool) : Type 0 where
  pub allowed : forbidden ≡ false
  pub execute : a.operation ≡ 1

-- a buffer that starts inside the memory, with a size that is unfit by itself or reaches past the memory's end
pub record BadSize (unfit : Type 0) (start size n : ℕ) : Type 0 where
  pub begins : start < n
  pub bad : unfit ⊎ (n < start + size)

-- the request's buffer passes its checks
pub record InputPlaced (a : Arguments) (n : ℕ) : Type 0 where
  pub input : Within a.inbuffer a.insize n
  pub short : a.insize ≤ 4096

-- the condition of each code
abbrev pub Reason : Arguments → List ℕ → List ℕ → Bool → Bool → ReturnCode → Type 0
Reason a memory response forbidden fault Success = CommAccepts a memory response forbidden fault
Reason a memory response forbidden fault Function = forbidden ≡ true
Reason a memory response forbidden fault Parameter = (forbidden ≡ false) × (a.operation ≡ 1 → ⊥) × (a.operation ≡ 2 → ⊥)
Reason a memory response forbidden fault P2 = Reached a forbidden × (length memory ≤ a.inbuffer)
Reason a memory response forbidden fault P3 = Reached a forbidden × BadSize (4096 < a.insize) a.inbuffer a.insize (length memory)
Reason a memory response forbidden fault P4 = Reached a forbidden × InputPlaced a (length memory) × (length memory ≤ a.outbuffer)
Reason a memory response forbidden fault P5 =
    Reached a forbidden × InputPlaced a (length memory) × BadSize (a.outsize < 4096) a.outbuffer a.outsize (length memory)
Reason a memory response forbidden fault Resource =
    Reached a forbidden × Placed a (length memory) × ((fault ≡ true) ⊎ (a.outsize < length response))

-- ---- what a call does
-- r4 is 0, and the session `s` and every byte of the memory are unchanged
pub record Unchanged (s : TpmSession) (memory : List ℕ) (t : CommStep) : Type 0 where
  pub none : t.r4 ≡ 0
  pub session : t.session ≡ s
  pub memory-same : t.memory ≡ memory

-- r4 is the length of the response, the session is open, the response is at address `at`, and every byte before and after it is unchanged
-- (TP4)
pub record Written (at : ℕ) (memory response : List ℕ) (t : CommStep) : Type 0 where
  pub told : t.r4 ≡ length response
  pub session : t.session ≡ Open
  pub there : part at (length response) t.memory ≡ response
  pub before : take at t.memory ≡ take at memory
  pub behind : drop (at + length response) t.memory ≡ drop (at + length response) memory
