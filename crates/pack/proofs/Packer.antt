-- What request E11 requires of the packer, proved. Assumes nothing.
use Rattle.std.proofs.Common.{◌≡◌, ℕ, ◌<◌, List, length, get_or, pos, sym, Ok}
use Rattle.words.specs.Word.{word_at}
use Rattle.reader.specs.Answer.{read_of}
use Rattle.writer_rules.specs.Write.{a-page}
use Rattle.pack.specs.Pack.{written, pack_of, packed_by, target_after, packed_number}
use Rattle.pack.specs.Packer.{Packer, repacked}
use Rattle.pack.proofs.Made.{pack-page}
use Rattle.pack.proofs.Told.{packed_zero}
use Rattle.pack.proofs.Packed.{pack-same, pack-again, pack-stops, pack-late, pack-target, pack-untouched}

pub packer : Packer
packer = record {
  made = pack-page;
  same = pack-same;
  again = pack-again;
  stops = pack-stops;
  late = pack-late;
  target = pack-target;
  untouched = λ base page lent. pack-untouched lent (pack_of base (length lent) page);
}

-- `same` and `again` for a call of `pack` that made a page. Their premises are the promises of `pack` about the answer and the lent page.
pub packed-lent : (base n : ℕ) (page after : List ℕ) → packed_by after (Ok tt) ≡ pack_of base n page → ((i : ℕ) → get_or page i 0 < 256) →
    ((r : ℕ) → read_of r base after ≡ repacked (word_at 8 after) (read_of r base page)) × (pack_of base n after ≡ written (a-page after))
unfolding packed_by
packed-lent base n page after h b = (pack-same base n page after b (sym h), pack-again base n page after b (sym h))

-- The same for a call of `pbeam_pack` that returns 0, by its promises.
pub packed-called : (base : ℕ) (page before after : List ℕ) → packed_number (pack_of base (length before) page) ≡ pos 0 →
    after ≡ target_after before (pack_of base (length before) page) → ((i : ℕ) → get_or page i 0 < 256) →
    ((r : ℕ) → read_of r base after ≡ repacked (word_at 8 after) (read_of r base page)) ×
    (pack_of base (length before) after ≡ written (a-page after))
packed-called base page before after h e b =
    let p = packed_zero before base (length before) page h in
    rw e (pack-same base (length before) page _ b p, pack-again base (length before) page _ b p)
