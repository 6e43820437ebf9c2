-- `inner::stored_cube` meets its contract. Step 4: Yes with the cube that the lookup found.
use Rattle.inner.proofs.Conclusions.{stored_yes, stored_open}
use Rattle.inner.proofs.stored_cube.Goals as goal

pub returns-in-Some : goal.returns-in-Some
returns-in-Some c = λ D s es cls cs area shown given worded rows.
    stored_yes D s es cls cs c.args.cubes.now.cells.now area (c.lookup.ensures D s c.args.g.at es cls area shown given worded c.args.g.inside.inner rows) c.in-Some.is

pub returns-in-None : goal.returns-in-None
returns-in-None c = λ D s es cls cs area shown given worded rows.
    stored_open D s es cls cs c.args.cubes.now.cells.now area (c.lookup.ensures D s c.args.g.at es cls area shown given worded c.args.g.inside.inner rows) c.in-None.is
