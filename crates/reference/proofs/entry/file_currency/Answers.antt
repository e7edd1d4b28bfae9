use Rattle.sheets.specs.Refusals.{currency_sheet_refusal}
use Rattle.reference.proofs.Filing.{unless_none}
use Rattle.reference.proofs.entry.file_currency.Goals as goal

pub returns : goal.returns
returns g c =
    let made = c.in_ok-sheet.ensures.made in
    record {
      filed = unless_none (currency_sheet_refusal c.args.currency c.args.rate c.args.value) _ _ c.enter_currency.result _ made.0 (c.in_ok-sheet.sheet, made.1, c.enter_currency.ensures.entered);
    }
