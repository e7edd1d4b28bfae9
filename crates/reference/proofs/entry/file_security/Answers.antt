use Rattle.sheets.specs.Refusals.{security_sheet_refusal}
use Rattle.reference.proofs.Filing.{unless_none}
use Rattle.reference.proofs.entry.file_security.Goals as goal

pub returns : goal.returns
returns g c =
    let made = c.in_ok-sheet.ensures.made in
    record {
      filed = unless_none (security_sheet_refusal c.args.price c.args.currency c.args.class) _ _ c.enter_security.result _ made.0 (c.in_ok-sheet.sheet, made.1, c.enter_security.ensures.entered);
    }
