-- The laws of runs, at a kind's heights and top.
use Rattle.runs.proofs.RunLaws.{filled_places, forgetting, mask_sums, restoring, skeletons_tell, spectra_tell, tallies_within}
use Rattle.runs.proofs.theorems.runs_of_a_kind.Goals as goal

pub returns-clause-sums : goal.returns-clause-sums
returns-clause-sums g c = mask_sums g.L.Level.height g.L.Level.top g.met.L.Level.within

pub returns-clause-restoring : goal.returns-clause-restoring
returns-clause-restoring g c = restoring g.L.Level.height g.L.Level.top g.met.L.Level.within g.met.L.Level.bounded

pub returns-clause-skeletons : goal.returns-clause-skeletons
returns-clause-skeletons g c = skeletons_tell g.L.Level.height g.L.Level.top g.met.L.Level.within g.met.L.Level.bounded

pub returns-clause-spectra : goal.returns-clause-spectra
returns-clause-spectra g c = spectra_tell g.L.Level.height g.L.Level.top g.met.L.Level.within

pub returns-clause-weights : goal.returns-clause-weights
returns-clause-weights g c = tallies_within g.L.Level.height g.L.Level.top g.met.L.Level.within

pub returns-clause-places : goal.returns-clause-places
returns-clause-places g c = filled_places g.L.Level.height g.L.Level.top g.met.L.Level.within

pub returns-clause-forgetting : goal.returns-clause-forgetting
returns-clause-forgetting g c = forgetting g.L.Level.height g.L.Level.top g.met.L.Level.within
