use Rattle.carry.proofs.Carrying.{carry_to, carry_greatest}
use Rattle.carry.proofs.layer.CarrySource.enter_security.Goals as goal

pub returns-clause-entered : goal.returns-clause-entered
returns-clause-entered g c =
    let b = (g.S.Source.meaning c.args.self.now.below).securities in
    let a = (g.S.Source.meaning c.enter_security.new.self).securities in
    let below = c.in_ok-last.ensures.entered in
    (carry_to b a c.args.security.number c.args.day.number c.args.sheet c.in_ok-last.last.number c.args.self.now.reach c.last_held.result.number below.0 c.last_held.ensures.value, below.1)

pub returns-clause-greatest : goal.returns-clause-greatest
returns-clause-greatest g c =
    let b = (g.S.Source.meaning c.args.self.now.below).securities in
    let a = (g.S.Source.meaning c.enter_security.new.self).securities in
    carry_greatest b a c.args.security.number c.args.day.number c.args.sheet c.in_ok-last.last.number c.args.self.now.reach c.last_held.result.number c.in_ok-last.ensures.entered.0 c.last_held.ensures.value
