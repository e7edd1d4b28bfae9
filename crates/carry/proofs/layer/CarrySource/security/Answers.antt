use Rattle.std.proofs.Common.{◌≡◌, rules, tests, sym, subst}
use Rattle.carry.specs.Carried.{latest}
use Rattle.carry.specs.Laws.{IsLatest}
use Rattle.carry.proofs.Latest.{latest_latest}
use Rattle.carry.proofs.Searches.{first_back}
use Rattle.carry.proofs.layer.CarrySource.security.Goals as goal

pub returns : goal.returns
returns g c =
    let t = (g.S.Source.meaning c.args.self.now.below).securities.sheet c.args.security.number in
    let n = c.args.self.now.reach in
    let d = c.args.day.number in
    let value : c.find_map.result ≡ latest t n d = first_back t n d (λ x o q k. search (rules, tests)) c.new.result c.find_map.result c.new.ensures.start c.new.ensures.end c.new.ensures.exhausted c.find_map.ensures.runs in
    record { value = value; latest = subst (IsLatest t n d) (sym value) (latest_latest t n d) }
