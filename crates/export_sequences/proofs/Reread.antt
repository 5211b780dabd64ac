-- Request E5: if the manifest is within the kept bytes, a reader gets the same answer after any sequence of commands. Assumes nothing.
use Prim.Native.Nat.{ℕ, ◌+◌, ◌*◌, ◌/◌, ◌≤◌, ◌<◌}
use mathlib.Core.Path.{◌≡◌, refl, sym, ap, ◌∙◌, subst}
use mathlib.Core.Bool.{false, false≢true}
use mathlib.Core.Logic.{◌⊎◌, inl, inr}
use mathlib.Core.List.{List, [], ◌∷◌, map}
use native.Mathlib.Omega.{arith}
use lib.ListN.{length, get_or}
use lib.Seq.{get_or-take}
use native.Mathlib.Decide.{dec_lt}
use lib.IntN.{pos}
use borrow.Author.Tests.{le-ltb}
use Rattle.words.specs.Tests.{Yes}
use Rattle.words.specs.Word.{le_of, word_at, num_at, are_words}
use Rattle.words.proofs.Read.{part_same}
use Rattle.versions.specs.Edition.{section_count, core}
use Rattle.reader.specs.Answer.{Shown, PlatShown, ReaderAnswer, refused, shows, read_of}
use Rattle.reader.specs.Reading.{section_at, view_at}
use Rattle.reader.proofs.Views.{shows-page}
use Rattle.writer_rules.proofs.Demand.{demand3}
use Rattle.manifest_extent.specs.Kept.{kept_for}
use Rattle.manifest_extent.proofs.Kept.{kept-covers}
use Rattle.manifest_extent.proofs.Least.{accepted-place, accepted-fields, core-covered, kept-least}
use Rattle.boot.specs.Boot.{cold_code, after, params_of, cold_next}
use Rattle.boot.specs.Boots.{Boot, booted, all_booted}
use Rattle.boot.specs.declared.Params.{Params}
use Rattle.boot.specs.declared.Record.{Record}
use Rattle.boot.specs.declared.Record.TheVariants.{Up, Closed}
use Rattle.boot.proofs.Closing.{closed-stays, up-stays}
use Rattle.codes.specs.Codes.{is_up}
use Rattle.banks.specs.Banks.{Granules}
use Rattle.runtime.specs.Step.{World, Command, call, sign, list}
use Rattle.runtime.specs.Run.{next_of, world_after}
use Rattle.runtime.specs.Kept.{KeptTo, HasRecord, AllHave}
use Rattle.runtime.proofs.Kept.{kept}
use Rattle.images.specs.Image.{view_of, view_words, answer_words}
use Rattle.images.proofs.Inverse.{view-back}
use Rattle.queue_image.specs.Image.{each, are_bytes}
use Rattle.export_sequences.specs.Chain.{Lent, lent_world, of_bytes}
use Rattle.export_sequences.specs.Exported.{Exported, command_of, all_exported}
use Rattle.export_sequences.specs.Reread.{Covers, ReadAgain, Event, boot, command, InTurn, ReadAtBoots}
use Rattle.export_sequences.proofs.Singles.{exports-chain}

-- ---- kept bytes that cover the manifest
module _ (n : ℕ) (page last : List ℕ) (k : KeptTo n page last) where
  byte-same : (i : ℕ) → i < n → get_or page i 0 ≡ get_or last i 0
  byte-same i h = sym (get_or-take n page i 0 h) ∙ ap (λ (l : List ℕ). get_or l i 0) (sym k.bytes) ∙ get_or-take n last i 0 h

  -- by the last statement of demand 3
  kept_read : (r base : ℕ) → Covers n r base page → read_of r base last ≡ read_of r base page
  kept_read r base c = sym (demand3.unread r base page last (sym k.whole) (λ i y. byte-same i (c i y)))

  -- and so the words that `pbeam_read` writes
  word_same : (off : ℕ) → off + 8 ≤ n → word_at off last ≡ word_at off page
  unfolding num_at
  word_same off h = ap le_of (part_same off 8 last page k.whole (λ i a b. sym (byte-same i (omega arith))))

  section-same : (e base j : ℕ) → core e ≤ n → section_at e base last j ≡ section_at e base page j
  unfolding section_at core
  section-same e base j h = go (dec_lt j (section_count e))
    where
      go : Dec (j < section_count e) → section_at e base last j ≡ section_at e base page j
      go (yes l) = rw (word_same (16 + 24 * j) (omega arith), word_same (24 + 24 * j) (omega arith))
      go (no l) = rw (le-ltb j (section_count e) (omega arith))

  view-same : (w e base : ℕ) → core e ≤ n → view_at w e base last ≡ view_at w e base page
  unfolding view_at core
  view-same w e base h =
      rw (word_same 8 (omega arith), section-same e base 0 h, section-same e base 1 h, section-same e base 2 h, section-same e base 3 h)

  view-read : (r base : ℕ) → Covers n r base page → answer_words base last (read_of r base last) ≡ answer_words base page (read_of r base page)
  unfolding answer_words
  view-read r base c =
      ap (answer_words base last) (kept_read r base c) ∙ go (read_of r base page) (λ w e q t h. core-covered r base page w e q t h n c)
    where
      go : (a : ReaderAnswer) → ((w e : ℕ) (q : PlatShown) (t : ℕ → Shown) → a ≡ shows w e q t → core e ≤ n) →
          answer_words base last a ≡ answer_words base page a
      go (refused c) f = refl
      go (shows w e q t) f = ap view_words (view-same w e base (f w e q t refl))

-- ---- after any commands
-- "a page that cold boot accepted": with the record that cold boot leaves, a reader of any edition gets the same answer again
pub commands-reread : (g : Granules) (u : Params) (w : World) (cs : List Command) (r : ℕ) → AllHave (Up u) cs →
    Covers u.kept r u.base w.page →
    read_of r u.base (world_after g w cs).page ≡ read_of r u.base w.page
commands-reread g u w cs r h c = kept_read u.kept w.page (world_after g w cs).page (kept g u w cs h) r u.base c

cold-up : (s : Record) (x0 x1 x2 x3 most n : ℕ) (page : List ℕ) → cold_code s x0 x1 x2 x3 most n page ≡ pos 0 →
    cold_next s x0 x1 x2 x3 most n page ≡ Up (params_of x1 x2 x3 n)
unfolding cold_next after
cold-up s x0 x1 x2 x3 most n page h = rw h

pub cold-reread : (g : Granules) (s : Record) (x0 x1 x2 x3 most n : ℕ) (w : World) (cs : List Command) →
    cold_code s x0 x1 x2 x3 most n w.page ≡ pos 0 →
    AllHave (cold_next s x0 x1 x2 x3 most n w.page) cs → (r : ℕ) → Covers n r x3 w.page →
    read_of r x3 (world_after g w cs).page ≡ read_of r x3 w.page
unfolding params_of
cold-reread g s x0 x1 x2 x3 most n w cs e h r c =
    commands-reread g (params_of x1 x2 x3 n) w cs r (subst (λ (b : Record). AllHave b cs) (cold-up s x0 x1 x2 x3 most n w.page e) h) c

-- after further boots a record that is up is unchanged or not up, so those commands may have it
pub boots-keep : (u : Params) (bs : List Boot) → (all_booted (Up u) bs ≡ Up u) ⊎ (is_up (all_booted (Up u) bs) ≡ false)
unfolding is_up
boots-keep u bs = go (up-stays u bs)
  where
    go : (all_booted (Up u) bs ≡ Up u) ⊎ (all_booted (Up u) bs ≡ Closed) → (all_booted (Up u) bs ≡ Up u) ⊎ (is_up (all_booted (Up u) bs) ≡ false)
    go (inl e) = inl e
    go (inr e) = inr (ap is_up e)

-- ---- boots and commands
module _ (g : Granules) (u : Params) (page : List ℕ) (r : ℕ) (c : Covers u.kept r u.base page) where
  read_again : (w : World) → KeptTo u.kept page w.page → ReadAgain r u.base page w.page
  read_again w k =
      record { answer = kept_read u.kept page w.page k r u.base c; view = view-read u.kept page w.page k r u.base c }

  has-record : (s : Record) (x : Command) → (s ≡ Up u) ⊎ (s ≡ Closed) → HasRecord s x → HasRecord (Up u) x
  unfolding HasRecord is_up
  has-record s (call d) (inl e) h = subst (λ (z : Record). (d.state ≡ z) ⊎ (is_up d.state ≡ false)) e h
  has-record s (call d) (inr e) (inl h) = inr (ap is_up (h ∙ e))
  has-record s (call d) (inr e) (inr h) = inr h
  has-record s (sign d) e h = h
  has-record s (list b d l) e h = h

  boot-step : (s : Record) (b : Boot) → (s ≡ Up u) ⊎ (s ≡ Closed) → (booted s b ≡ Up u) ⊎ (booted s b ≡ Closed)
  unfolding all_booted
  boot-step s b (inl e) = rw e (up-stays u (b ∷ []))
  boot-step s b (inr e) = inr (rw e (closed-stays (b ∷ [])))

  next-kept : (w : World) (x : Command) → HasRecord (Up u) x → KeptTo u.kept page w.page → KeptTo u.kept page (next_of g w x).page
  unfolding AllHave world_after
  next-kept w x h k = let t = kept g u w (x ∷ []) (h, tt) in record { bytes = t.bytes ∙ k.bytes; whole = t.whole ∙ k.whole }

  boots-read : (s : Record) (w : World) (es : List Event) → (s ≡ Up u) ⊎ (s ≡ Closed) → KeptTo u.kept page w.page → InTurn s es →
      ReadAtBoots g r u.base page w es
  unfolding InTurn ReadAtBoots
  boots-read s w [] e k t = read_again w k
  boots-read s w (boot b ∷ es) e k t = (read_again w k, boots-read (booted s b) w es (boot-step s b e) k t)
  boots-read s w (command x ∷ es) e k t = boots-read s (next_of g w x) es e (next-kept w x (has-record s x e t.0) k) t.1

-- "A monitor rereads the manifest at each warm boot": if cold boot accepts a page and the kept bytes cover the named bytes of a reader's
-- edition, that reader gets the same answer at each boot, over any boots and commands in any order, each command with the record at its
-- time
pub boots-reread : (g : Granules) (s : Record) (x0 x1 x2 x3 most n : ℕ) (w : World) (es : List Event) →
    cold_code s x0 x1 x2 x3 most n w.page ≡ pos 0 →
    InTurn (cold_next s x0 x1 x2 x3 most n w.page) es → (r : ℕ) → Covers n r x3 w.page → ReadAtBoots g r x3 w.page w es
unfolding params_of
boots-reread g s x0 x1 x2 x3 most n w es e t r c =
    boots-read g (params_of x1 x2 x3 n) w.page r c _ w es (inl (cold-up s x0 x1 x2 x3 most n w.page e))
    (record { bytes = refl; whole = refl }) t

-- ---- the number that `kept_for` returns
module _ (r base : ℕ) (page : List ℕ) (w e : ℕ) (q : PlatShown) (t : ℕ → Shown) (h : read_of r base page ≡ shows w e q t) where
  -- it covers the manifest of a page that the reader accepts: "the core and each array that its sections place within the page", and the
  -- fields
  pub kept-for-covers : Covers (kept_for (view_at w e base page) page) r base page
  kept-for-covers i y = go (dec_lt i (kept_for (view_at w e base page) page))
    where
      past : kept_for (view_at w e base page) page ≤ i → ⊥
      past l =
          let p = shows-page r base page w e q t h in
          let o = accepted-place r base page w e q t h in
          let f = accepted-fields r base page w e q t h in
          false≢true (sym (kept-covers r base page o f i (rw (p.edition, p.minor) at l)) ∙ y)

      go : Dec (i < kept_for (view_at w e base page) page) → i < kept_for (view_at w e base page) page
      go (yes l) = l
      go (no l) = absurd (past (omega arith))

  view-is : view_of (answer_words base page (read_of r base page)) ≡ view_at w e base page
  unfolding answer_words
  view-is = rw (h, view-back (view_at w e base page))

  -- for the view that `pbeam_read` writes
  pub view-covers : Covers (kept_for (view_of (answer_words base page (read_of r base page))) page) r base page
  view-covers = rw view-is kept-for-covers

  -- and is the least multiple of 8 that covers it
  pub view-least : (n : ℕ) → Covers n r base page → kept_for (view_of (answer_words base page (read_of r base page))) page ≤ 8 * ((n + 7) / 8)
  view-least n c = rw view-is (kept-least r base page w e q t h n c)

-- ---- the same for any sequence of exports, with a queue's image of 210 words, a page of bytes, and bytes lent to each call
module _ (granules : List ℕ) (m : Lent) (es : List Exported) (l : length m.queue ≡ 210) (v : Yes (are_words m.queue))
    (a : Yes (are_bytes m.page)) (b : Yes (each of_bytes (map command_of es))) where
  -- no kept byte of the lent page changes
  pub exports-kept : (u : Params) → AllHave (Up u) (map command_of es) → KeptTo u.kept m.page (all_exported granules m es).page
  exports-kept u h =
      subst (λ (x : World). KeptTo u.kept m.page x.page) (sym (exports-chain granules m es l v a b))
      (kept granules u (lent_world m) (map command_of es) h)

  module _ (s : Record) (x0 x1 x2 x3 most n : ℕ) (e : cold_code s x0 x1 x2 x3 most n m.page ≡ pos 0)
      (h : AllHave (cold_next s x0 x1 x2 x3 most n m.page) (map command_of es)) where
    cold-kept : KeptTo n m.page (all_exported granules m es).page
    unfolding params_of
    cold-kept =
        exports-kept (params_of x1 x2 x3 n) (subst (λ (r : Record). AllHave r (map command_of es))
        (cold-up s x0 x1 x2 x3 most n m.page e) h)

    -- If cold boot accepted the page and the kept bytes cover the named bytes of a reader's edition, that reader gets the same answer and
    -- the same view again.
    pub exports-reread : (r : ℕ) → Covers n r x3 m.page →
        (read_of r x3 (all_exported granules m es).page ≡ read_of r x3 m.page)
        × (answer_words x3 (all_exported granules m es).page (read_of r x3 (all_exported granules m es).page) ≡ answer_words x3 m.page
        (read_of r x3 m.page))
    exports-reread r c = (kept_read n _ _ cold-kept r x3 c, view-read n _ _ cold-kept r x3 c)

    -- the result of `kept_for` for the view of a reader of that edition is such a number of kept bytes
    pub kept-for-reread : (r w t : ℕ) (q : PlatShown) (f : ℕ → Shown) → read_of r x3 m.page ≡ shows w t q f →
        n ≡ kept_for (view_of (answer_words x3 m.page (read_of r x3 m.page))) m.page →
        (read_of r x3 (all_exported granules m es).page ≡ read_of r x3 m.page)
        × (answer_words x3 (all_exported granules m es).page (read_of r x3 (all_exported granules m es).page) ≡ answer_words x3 m.page
        (read_of r x3 m.page))
    kept-for-reread r w t q f h k =
        exports-reread r (subst (λ (x : ℕ). Covers x r x3 m.page) (sym k) (view-covers r x3 m.page w t q f h))
