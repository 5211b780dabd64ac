-- What a call does, for each function id. Assumes nothing.
use Rattle.std.specs.Prelude.{◌≡◌}
use Rattle.codes.specs.Codes.{answer_of}
use Rattle.codes.specs.declared.Code.TheVariants.{Unk}
use Rattle.codes.specs.declared.Work.TheVariants.{Nothing}
use Rattle.granule_rules.specs.Granules.{Moved, delegate_of, undelegate_of}
use Rattle.banks.specs.Banks.{Granules}
use Rattle.attest.specs.Key.{Keyed, realm_key_of}
use Rattle.token_rules.specs.Token.{TokenStep, token_of}
use Rattle.features.specs.Features.{features_of, update_of}
use Rattle.features.specs.declared.UpdateResult.{UpdateResult}
use Rattle.queue.specs.Queue.{SigningStep}
use Rattle.signing.specs.Signing.{signing_of}
use Rattle.runtime.specs.Step.{World, with_page, with_table, with_session, with_queue, Call, call_of}
use Rattle.runtime.specs.declared.Reply.TheVariants.{Forward, Back}

-- For each function id of docs/RULES.md, chapter 14, a call returns the answer of that command, with the registers in the order of
-- docs/RULES.md, and changes only the part of the world that the command changes.
pub record CallActed (g : Granules) (w : World) (c : Call) : Type 0 where
  pub forwards : c.id ≡ 0xC400018F → call_of g w c ≡ record { reply = Forward c.x1; next = w }
  pub delegates : c.id ≡ 0xC40001B0 → (m : Moved) → m ≡ delegate_of c.state g w.table c.x1 →
      call_of g w c ≡ record { reply = Back m.answer Nothing; next = with_table m.table w }
  pub undelegates : c.id ≡ 0xC40001B1 → (m : Moved) → m ≡ undelegate_of c.state g w.table c.x1 →
      call_of g w c ≡ record { reply = Back m.answer Nothing; next = with_table m.table w }
  pub attests : c.id ≡ 0xC40001B2 → (k : Keyed) → k ≡ realm_key_of c.state w.page c.realm_key c.x1 c.x2 c.x3 →
      call_of g w c ≡ record { reply = Back k.answer Nothing; next = with_page k.page w }
  pub sends : c.id ≡ 0xC40001B3 → (t : TokenStep) → t ≡ token_of c.state w.page w.session c.busy c.token c.x1 c.x2
      c.x3 →
      call_of g w c ≡ record { reply = Back t.answer Nothing; next = with_session t.session (with_page t.page w) }
  pub tells : c.id ≡ 0xC40001B4 → call_of g w c ≡ record { reply = Back (features_of c.state c.x1) Nothing; next = w }
  pub queues : c.id ≡ 0xC40001B5 → (s : SigningStep) → s ≡ signing_of c.state w.page w.queue c.public_key c.x1 c.x2
      c.x3 c.x4 →
      call_of g w c ≡ record { reply = Back s.answer Nothing; next = with_queue s.queue (with_page s.page w) }
  pub updates : c.id ≡ 0xC40001B6 → (u : UpdateResult) → u ≡ update_of c.state c.width c.x1 →
      call_of g w c ≡ record { reply = Back u.answer u.work; next = w }
  -- "Any function id not listed below: UNK." (RT5)
  pub others : (c.id ≡ 0xC400018F → ⊥) → (c.id ≡ 0xC40001B0 → ⊥) → (c.id ≡ 0xC40001B1 → ⊥) → (c.id ≡ 0xC40001B2 → ⊥) →
      (c.id ≡ 0xC40001B3 → ⊥) → (c.id ≡ 0xC40001B4 → ⊥) → (c.id ≡ 0xC40001B5 → ⊥) → (c.id ≡ 0xC40001B6 → ⊥) →
      call_of g w c ≡ record { reply = Back (answer_of Unk 0 0) Nothing; next = w }
