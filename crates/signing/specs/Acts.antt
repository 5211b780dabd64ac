-- When token signing is accepted, and what an accepted call does, opcode by opcode. Assumes nothing.
use Rattle.std.specs.Prelude.{ℕ, ◌≤◌, ◌≡◌, true, List, [], ◌∷◌, ◌++◌, length}
use Rattle.words.specs.Word.{le_bytes, part, word_at, u32_at}
use Rattle.boot.specs.declared.Record.{Record}
use Rattle.buffer_check.specs.Buffers.{BufferIn, WrittenAt}
use Rattle.codes.specs.Codes.{is_up, boot_params}
use Rattle.codes.specs.declared.Code.TheVariants.{Ok}
use Rattle.queue.specs.Queue.{Signed, Lists, SigningStep}

-- The record is up with minor 4 or more, and the buffer is in the page
pub record SigningPassed (r : Record) (page : List ℕ) (pa size : ℕ) : Type 0 where
  pub up : is_up r ≡ true
  pub minor : 4 ≤ (boot_params r).minor
  pub buffer : BufferIn (boot_params r) page pa size

-- The registers of an OK, what then waits, and the bytes at offset `at` of the page; every other byte is unchanged
pub record SigningActed (x1 : ℕ) (waits : Lists) (at : ℕ) (bytes page : List ℕ) (s : SigningStep) : Type 0 where
  pub told : s.answer ≡ record { code = Ok; x0 = 0; x1 = x1; x2 = 0 }
  pub left : s.queue ≡ waits
  pub written : WrittenAt at bytes page s.page

-- "the request joins the end" (CM7.15), for the buffer b: nothing else changes
abbrev pub PushActed : List ℕ → List ℕ → Lists → SigningStep → Type 0
PushActed b page q s =
    s ≡ record {
      answer = record { code = Ok; x0 = 0; x1 = 0; x2 = 0 };
      page = page;
      queue = record {
        requests =
            q.requests ++ (record {
              algorithm = u32_at 0 b;
              granule = word_at 8 b;
              ticket = word_at 16 b;
              hashid = u32_at 24 b;
              hash = part 32 48 b;
            } ∷ []);
        responses = q.responses;
      };
    }

-- "writes rec_granule, req_ticket, 2-byte length, signature, and drops it" (CM7.16): of the response r, the oldest
abbrev pub PullActed : ℕ → List ℕ → Lists → SigningStep → Type 0
PullActed at page q s =
    (r : Signed) (rest : List Signed) → q.responses ≡ r ∷ rest →
    SigningActed 0 (record { requests = q.requests; responses = rest }) at
    (le_bytes 8 r.granule ++ le_bytes 8 r.ticket ++ le_bytes 2 (length r.signature) ++ r.signature) page s

-- "written at pa, x1 its length" (CM7.17): of the public key
abbrev pub PublicActed : ℕ → List ℕ → Lists → List ℕ → SigningStep → Type 0
PublicActed at page q key s = SigningActed (length key) q at key page s
