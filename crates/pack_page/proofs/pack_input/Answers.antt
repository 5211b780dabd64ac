use Rattle.std.proofs.Common.{Err}
use mathlib.Core.Path.{◌≡◌, sym, ap, ◌∙◌}
use lib.ListN.{length}
use lib.Seq.{take-length}
use Rattle.pack.specs.Pack.{packed_by}
use Rattle.pack.specs.declared.PackError.TheVariants.{Refused, Target}
use Rattle.pack_page.specs.Prints.{output_of}
use Rattle.pack_page.proofs.Inputs.{input-short, input-packed}
use borrow.Author.Rules.{rules}
use Rattle.pack_page.proofs.pack_input.Goals as goal

pub returns-then-input-ne4104 : goal.returns-then-input-ne4104
returns-then-input-ne4104 c = (
  c.put_code.ensures.0,
  c.put_code.ensures.1 ∙
      input-short c.args.input.now
      c.if-input-ne4104.true,
)

pub returns-in-Ok : goal.returns-in-Ok
unfolding packed_by output_of
returns-in-Ok c = (
  search rules,
  take-length _ ∙ input-packed c.args.input.now _
      (length c.args.out.now) _ (search rules)
      c.word_at.ensures c.requires
      (ap (packed_by _) (sym c.in-Ok.is) ∙ c.pack.ensures.result_after),
)

pub returns-in-Err-Refused : goal.returns-in-Err-Refused
unfolding packed_by output_of
returns-in-Err-Refused c =
    let f : c.in-Err-Refused.field-0 ≡ Refused c.in-Err-Refused.code = c.in-Err-Refused.field-0-is in
    let e : c.pack.result ≡ Err (Refused c.in-Err-Refused.code) = c.in-Err-Refused.is ∙ ap Err f in (
      c.put_code-in-Err-Refused.ensures.0,
      c.put_code-in-Err-Refused.ensures.1 ∙
          input-packed c.args.input.now _ (length c.args.out.now) _ (search rules)
          c.word_at.ensures c.requires
          (ap (packed_by _) (sym e) ∙ c.pack.ensures.result_after),
    )

pub returns-in-Err-Target : goal.returns-in-Err-Target
unfolding packed_by output_of
returns-in-Err-Target c =
    let f : c.in-Err-Target.field-0 ≡ Target = c.in-Err-Target.field-0-is in
    let e : c.pack.result ≡ Err Target = c.in-Err-Target.is ∙ ap Err f in (
      search rules,
      input-packed c.args.input.now _ (length c.args.out.now) _
          (search rules) c.word_at.ensures c.requires
          (ap (packed_by _) (sym e) ∙ c.pack.ensures.result_after),
    )
