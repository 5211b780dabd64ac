-- Each function id runs its command, with its registers. Assumes nothing.
use Prim.Native.Nat.{ℕ}
use mathlib.Core.Path.{◌≡◌, refl, ap, ◌∙◌}
use borrow.Author.Tests.{ne_eqb}
use Rattle.banks.specs.Banks.{Granules}
use Rattle.features.specs.Features.{forward_of}
use Rattle.runtime.specs.Step.{World, Call, kind_of, after_move, after_key, after_token, after_signing, after_update, call_by, call_of}
use Rattle.runtime.specs.Acts.{CallActed}

module _ (g : Granules) (w : World) (c : Call) where
  reached : (id : ℕ) → c.id ≡ id → call_of g w c ≡ call_by (kind_of id) g w c
  unfolding call_of
  reached id e = ap (λ (i : ℕ). call_by (kind_of i) g w c) e

  pub call-acts : CallActed g w c
  unfolding call_by kind_of forward_of after_move after_key after_token after_signing after_update
  call-acts =
      record {
        forwards = λ e. reached 0xC400018F e;
        delegates = λ e m d. rw d (reached 0xC40001B0 e);
        undelegates = λ e m d. rw d (reached 0xC40001B1 e);
        attests = λ e k d. rw d (reached 0xC40001B2 e);
        sends = λ e t d. rw d (reached 0xC40001B3 e);
        tells = λ e. reached 0xC40001B4 e;
        queues = λ e s d. rw d (reached 0xC40001B5 e);
        updates = λ e u d. rw d (reached 0xC40001B6 e);
        others =
            λ a b d e f h i j. reached c.id refl ∙ rw (
              ne_eqb c.id 0xC400018F a,
              ne_eqb c.id 0xC40001B0 b,
              ne_eqb c.id 0xC40001B1 d,
              ne_eqb c.id 0xC40001B2 e,
              ne_eqb c.id 0xC40001B3 f,
              ne_eqb c.id 0xC40001B4 h,
              ne_eqb c.id 0xC40001B5 i,
              ne_eqb c.id 0xC40001B6 j,
            );
      }
