use Rattle.flat_builders.proofs.ShownLemmas.{fit, pushed, refused, typed, unchanged}
use Rattle.flat_builders.proofs.flat_mutable.FlatMutable.push_cell.Goals as goal

pub returns : goal.returns
returns c =
    let held = c.self.inside in
    let new = c.push_cell.new.self in
    let old = c.args.self.now in
    let cell = c.args.cell.now in
    let result = c.push_cell.result in
    let found = c.push_cell.ensures in
    record {
      ok = pushed held.building new held.data_type c.self.invariant old c.self.view_is cell result found.ok;
      typed = typed held.building new held.data_type c.self.invariant old c.self.view_is cell result found.typed;
      fits = fit held.building new held.data_type c.self.invariant old c.self.view_is cell result found.fits;
      same = unchanged held.building new held.data_type c.self.invariant old c.self.view_is cell result found.same;
      err = refused held.building new held.data_type c.self.invariant old c.self.view_is cell result found.err;
    }
