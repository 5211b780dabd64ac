-- A reader accepts exactly under the conditions of RD2, given as plain facts. Assumes nothing.
use Prim.Native.Nat.{ℕ, ◌+◌}
use mathlib.Core.Path.{◌≡◌, refl, sym, ◌∙◌}
use mathlib.Core.Bool.{Bool, true, false}
use mathlib.Core.Logic.{◌⊎◌, inl, inr, ⊎_elim}
use mathlib.Core.List.{List}
use native.Mathlib.Omega.{arith}
use lib.ListN.{length}
use borrow.Author.Tests.{eqb-true, eq-eqb}
use Rattle.words.specs.Tests.{Yes, both}
use Rattle.words.specs.Word.{word_at}
use Rattle.words.proofs.Tests.{both_l, both_r, both_of, every-at, every_of}
use Rattle.versions.specs.Version.{minor_of, version_ok}
use Rattle.versions.specs.Edition.{section_count, edition_ok}
use Rattle.versions.proofs.Versions.{version-minor, version_of}
use Rattle.versions.proofs.Editions.{edition-of, edition-range}
use Rattle.fields.specs.Fields.{fields_in, taken}
use Rattle.sections.specs.Page.{version_at, padding_at, page_section_at, page_platform, found_at, platform_at}
use Rattle.sections.specs.Section.{rules_at}
use Rattle.sections.specs.Steps.{ok_at, ok_to, apart_at, clear_to, apart_to, clear_at, clear_from}
use Rattle.sections.proofs.Sections.{placed, rules-steps}
use Rattle.sections.proofs.Facts.{place-acts, section-acts, section-only, apart-acts, apart-only, clear-acts, clear-only, plat-found}
use Rattle.sections.proofs.Facts.{plat-acts, plat-only}
use Rattle.reader.specs.Answer.{Shown, PlatShown, ReaderAnswer, refused, shows, minus, shown, plat_shown, all_shown, reader_gate, judge}
use Rattle.reader.specs.Answer.{read_of}
use Rattle.reader.specs.Acts.{VersionFacts, Accepts, plat_with, ReadsPage, AcceptedPage, Refuses}
use Rattle.reader.proofs.Newer.{gate-shows, gate-true}
use Rattle.reader.proofs.Views.{shows-each, shows-page}

swapped : {A B : Type 0} → A ⊎ B → B ⊎ A
swapped t = ⊎_elim (λ a. inr a) (λ b. inl b) t

-- ---- edition and version
version-acts : (r v : ℕ) → VersionFacts r v → Yes (both (edition_ok r) (version_ok v))
version-acts r v t = both_of _ _ (edition-of r t.0 t.1) (version_of v t.2 t.3)

version-only : (r v : ℕ) → Yes (both (edition_ok r) (version_ok v)) → VersionFacts r v
unfolding minor_of
version-only r v h =
    let e = edition-range r (both_l _ _ h) in
    let m = version-minor v (both_r _ _ h) in
    (e.0, e.1, m.1, omega (arith, m.0))

-- ---- "all hold"
module _ (r base : ℕ) (page : List ℕ) (w e : ℕ) (t : Accepts r base page w e) where
  rules-are : rules_at w e base page ≡ true
  unfolding ok_to apart_to clear_to clear_from taken
  rules-are =
      rw (rules-steps w e base page, plat-found e base page t.fields t.taken t.plat)
      (both_of _ _ (eq-eqb (padding_at page) 0 t.padding)
      (both_of _ _ (plat-acts e base page t.fields t.taken t.plat)
      (both_of _ _ (every_of (section_count e) (λ k. ok_at w e base k page) (λ k l. section-acts w e base k page (t.sections k l)))
      (both_of _ _ (every_of (section_count e) (λ i. clear_to i i page)
      (λ i l. every_of i (λ j. apart_at i j page) (λ j m. apart-acts i j page (swapped (t.apart j i m l)))))
      (every_of (section_count e) (λ k. clear_at (word_at 8 page) (word_at 8 page + t.taken) k page)
      (λ k l. clear-acts (word_at 8 page) (word_at 8 page + t.taken) k page (t.clear k l)))))))

  minor-is : minor_of (version_at page) ≡ w
  minor-is = (version-minor (version_at page) (version_of (version_at page) t.version.2 t.version.3)).0 ∙ sym t.minor

  accepts : read_of r base page ≡ shows w e (plat_with page t.fields) (λ k. shown w e k (page_section_at base page k))
  unfolding read_of judge all_shown plat_shown platform_at page_platform rules_at fields_in
  accepts =
      rw (minor-is, ← t.edition)
      (gate-true _ _ _ _ (place-acts base (length page) t.place) (version-acts r (version_at page) t.version) rules-are
      ∙ rw (plat-found e base page t.fields t.taken t.plat))

-- A page that meets all conditions is accepted and shown.
pub reads-acts : (r base : ℕ) (page : List ℕ) (w e : ℕ) (t : Accepts r base page w e) → ReadsPage r base page w e t.fields
reads-acts r base page w e t =
    let a = accepts r base page w e t in
    record { shown = λ k. shown w e k (page_section_at base page k); answer = a; view = shows-page r base page w e _ _ a }

-- Only such a page is accepted.
pub reads_only : (r base : ℕ) (page : List ℕ) (w e : ℕ) (q : PlatShown) (s : ℕ → Shown) → read_of r base page ≡ shows w e q s →
    AcceptedPage r base page w e q
unfolding read_of judge all_shown plat_shown platform_at page_platform ok_to apart_to clear_to clear_from rules_at
reads_only r base page w e q s h =
    let g = gate-shows _ _ _ _ _ _ _ _ h in
    let i = shows-each _ w _ e _ q _ s g.1 in
    let y : rules_at w e base page ≡ true = rw (i.1, i.0) at g.0.2 in
    let z = rw (rules-steps w e base page) at y in
    let a = both_r _ _ z in
    let b = both_r _ _ a in
    let c = both_r _ _ b in
    record {
      conditions = record {
        place = placed base (length page) g.0.0;
        version = version-only r (version_at page) g.0.1;
        minor = sym i.0 ∙ (version-minor (version_at page) (both_r _ _ g.0.1)).0;
        edition = sym i.1 ∙ rw i.0;
        padding = eqb-true _ _ (both_l _ _ z);
        fields = fields_in (found_at base page (word_at 8 page));
        taken = taken (found_at base page (word_at 8 page));
        plat = plat-only e base page (both_l _ _ a);
        sections = λ k l. section-only w e base k page (every-at (section_count e) (λ k. ok_at w e base k page) (both_l _ _ b) k l);
        apart =
            λ j k l m. swapped (apart-only k j page (every-at k (λ j. apart_at k j page)
            (every-at (section_count e) (λ i. clear_to i i page) (both_l _ _ c) k m) j l));
        clear =
            λ k l. clear-only (word_at 8 page) (word_at 8 page + taken (found_at base page (word_at 8 page))) k page
            (every-at (section_count e) _ (both_r _ _ c) k l);
      };
      plat = sym i.2;
    }

-- ---- the code of any other page
gate-5 : (p v o : Bool) (a : ReaderAnswer) → (Yes p → ⊥) → reader_gate p v o a ≡ refused (minus 5)
unfolding reader_gate
gate-5 true v o a h = absurd (h refl)
gate-5 false v o a h = refl

gate-6 : (p v o : Bool) (a : ReaderAnswer) → Yes p → (Yes v → ⊥) → reader_gate p v o a ≡ refused (minus 6)
unfolding reader_gate
gate-6 p true o a x h = absurd (h refl)
gate-6 p false o a x h = rw x

gate-7 : (p v o : Bool) (a : ReaderAnswer) → Yes p → Yes v → (Yes o → ⊥) → reader_gate p v o a ≡ refused (minus 7)
unfolding reader_gate
gate-7 p v true a x y h = absurd (h refl)
gate-7 p v false a x y h = rw (x, y)

pub reads-refuses : (r base : ℕ) (page : List ℕ) → Refuses r base page
unfolding read_of judge all_shown
reads-refuses r base page = record {
  place = λ n. gate-5 _ _ _ _ (λ y. n (placed base (length page) y));
  version = λ p n. gate-6 _ _ _ _ (place-acts base (length page) p) (λ y. n (version-only r (version_at page) y));
  rules = λ p v n.
      let x = place-acts base (length page) p in
      let y = version-acts r (version_at page) v in
      gate-7 _ _ _ _ x y (λ z. n _ _ (reads_only r base page _ _ _ _ (gate-true _ _ _ _ x y z)).conditions);
}
