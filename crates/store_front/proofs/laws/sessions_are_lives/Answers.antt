use Rattle.store_front.proofs.Living.{session_leads, session_may}
use Rattle.store_front.proofs.laws.sessions_are_lives.Goals as goal

pub returns-clause-steps : goal.returns-clause-steps
returns-clause-steps g a c old new result left left_after taken taken_after session = (
  session_leads g.D.Disk.pending g.D.Disk.seen g.D.Disk.most g.D.Disk.moment g.D.Disk.left_since c old new result left left_after taken taken_after session,
  session_may g.D.Disk.pending g.D.Disk.seen g.D.Disk.most g.D.Disk.moment g.D.Disk.left_since c old new result left left_after taken taken_after session,
)

pub returns-clause-lives : goal.returns-clause-lives
returns-clause-lives g a life gone found c old new result left left_after taken taken_after session has are =
    a.sessions_are_lives.ensures.steps life _ old new gone found has
    (session_leads g.D.Disk.pending g.D.Disk.seen g.D.Disk.most g.D.Disk.moment g.D.Disk.left_since c old new result left left_after taken
    taken_after session)
    (session_may g.D.Disk.pending g.D.Disk.seen g.D.Disk.most g.D.Disk.moment g.D.Disk.left_since c old new result left left_after taken
    taken_after session _ has.remembered)
    are
