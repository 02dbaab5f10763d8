use Rattle.std.proofs.Common.{◌≡◌, length, rules}
use Rattle.yearsheet.proofs.read_dossier.Goals as goal

-- the room that the space has
pub returns-clause-front : goal.returns-clause-front
returns-clause-front g c =
    let room : length c.args.space.now ≡ 65536 = search rules in
    rw room at c.in_ok-done.ensures.bytes
