use mathlib.Core.Path.{sym, ap, ◌∙◌}
use Rattle.rules.specs.Fields.{le}
use Rattle.rules.specs.Index.{file_type}
use Rattle.rules.specs.Index.Items.{file-field, directory-field}
use Rattle.slots.proofs.file_field.Goals as goal

pub returns-then-is_file : goal.returns-then-is_file
returns-then-is_file c =
    let a = c.args in
    let s = a.img.now in
    let t = sym (ap file_type c.kind_at.ensures) ∙ sym c.is_file.ensures ∙ c.if-is_file.true in
    c.le64_at.ensures ∙ ap (le 8 s) c.after.ensures ∙ sym (file-field s a.at.0 a.o t)

pub returns : goal.returns
returns c =
    let a = c.args in
    let t = sym (ap file_type c.kind_at.ensures) ∙ sym c.is_file.ensures ∙ c.if-is_file.false in
    sym (directory-field a.img.now a.at.0 a.o t)
