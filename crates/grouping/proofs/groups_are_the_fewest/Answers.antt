-- `grouping::groups_are_the_fewest` meets its contract: what the image check says of an image makes its grouping such a one.
use Rattle.grouping.proofs.groups_are_the_fewest.Goals as goal
use Rattle.grouping.proofs.Coarsest.{groups-meet, groups-coarsest, groups-fewest}

pub returns-clause-meet : goal.returns-clause-meet
returns-clause-meet c = groups-meet

pub returns-clause-coarsest : goal.returns-clause-coarsest
returns-clause-coarsest c = groups-coarsest

pub returns-clause-fewest : goal.returns-clause-fewest
returns-clause-fewest c = groups-fewest
