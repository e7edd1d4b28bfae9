use Rattle.std.proofs.Common.{◌≡◌, ◌+◌, ◌∙◌, true, false, is_some, rules, tests, arith}
use Rattle.std.proofs.lemmas.Iterator.{first_from_Range}
use Rattle.carry.proofs.Searches.{found_spread}
use Rattle.carry.proofs.layer.Carry.last_held.Goals as goal

pub returns : goal.returns
returns g c =
    let t = (g.S.Source.meaning c.args.self.now.below).securities.sheet c.args.security.number in
    let stop = first_from_Range _ _ _ c.find.result (λ d. is_some (t (d + 1)) ≡ true) (λ d. is_some (t (d + 1)) ≡ false) c.find.ensures.ran (λ x q k. search (rules, tests)) (λ x q k. search (rules, tests)) in
    record { value = c.unwrap_or-last.ensures ∙ found_spread t c.args.self.now.reach c.args.day.number c.args.day.limit c.min-farthest.result (omega (arith, c.min-farthest.ensures, c.from.ensures)) c.find.result stop }
