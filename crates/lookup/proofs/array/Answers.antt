use mathlib.Core.Path.{◌∙◌}
use Rattle.reader.specs.Answer.{read_of}
use Rattle.lookup.proofs.Lookups.{told-starts}
use Rattle.lookup.proofs.array.Goals as goal

pub returns : goal.returns
returns c =
    let a = c.args in
    let e = c.place.ensures in record {
      result_value = c.part_of.ensures.result_value ∙ e.page_value;
      ref_ptr_value = told-starts a.base a.page.now (read_of a.edition a.base a.page.now) a.k _ e.value a.page.ref_ptr _
          c.part_of.ensures.ref_ptr_value;
    }
