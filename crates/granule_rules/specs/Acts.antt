-- What an accepted call of delegate or undelegate does (CM2.6, CM3.6). Assumes nothing.
use Rattle.std.specs.Prelude.{ℕ, ◌≡◌, length, get_or, Some}
use Rattle.banks.specs.Banks.{Granules, granule_at}
use Rattle.realm_words.specs.Bits.{bit_at, realm_bit}
use Rattle.granule_rules.specs.Granules.{GranuleTable, from_byte, to_byte}
use Rattle.granule_rules.specs.declared.Direction.{Direction}
use Rattle.granule_rules.specs.declared.Direction.TheVariants.{Delegate, Undelegate}

-- The granule is that of the address, its byte is `from_byte` before and `to_byte` after the call, and every other byte is unchanged. Request
-- E6: its bit is that of the new byte, for any bit before, and every other bit is unchanged
pub record MoveActed (g : Granules) (d : Direction) (t after : GranuleTable) (addr : ℕ) : Type 0 where
  pub granule : ℕ
  pub own : granule_at g (length t.bytes) addr ≡ Some granule
  pub was : get_or t.bytes granule 0 ≡ from_byte d
  pub becomes : get_or after.bytes granule 0 ≡ to_byte d
  pub others : (j : ℕ) → (j ≡ granule → ⊥) → get_or after.bytes j 0 ≡ get_or t.bytes j 0
  pub whole : length after.bytes ≡ length t.bytes
  pub bit : bit_at after.words granule ≡ realm_bit (to_byte d)
  pub other_bits : (j : ℕ) → (j ≡ granule → ⊥) → bit_at after.words j ≡ bit_at t.words j
  pub whole_words : length after.words ≡ length t.words
  -- "BAD_PAS unless that byte is 0 (delegate) or 1 (undelegate). Then it becomes 1 or 0." (CM2.5, CM2.6, CM3.5, CM3.6): the byte before,
  -- the byte after, and the bit after
  pub delegated : d ≡ Delegate → (get_or t.bytes granule 0 ≡ 0) × (get_or after.bytes granule 0 ≡ 1) × (bit_at after.words granule ≡ 1)
  pub undelegated : d ≡ Undelegate → (get_or t.bytes granule 0 ≡ 1) × (get_or after.bytes granule 0 ≡ 0) ×
      (bit_at after.words granule ≡ 0)
