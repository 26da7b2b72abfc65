use Rattle.cow_index.proofs.Heights.{height-bits}
use Rattle.cow_index.proofs.map.CowMap.height.Goals as goal

pub returns-clause-low : goal.returns-clause-low
returns-clause-low g c = rw (← c.self.view_is) (height-bits _ _ c.height.ensures.dense)
