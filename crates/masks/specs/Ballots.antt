-- A vote as the yes or no that a table keeps.
use Rattle.std.specs.Prelude.{Bool, true, false}
use Rattle.masks.specs.declared.Ballot.{Ballot}
use Rattle.masks.specs.declared.Ballot.TheVariants.{Yes, No}

abbrev pub says_yes : Ballot → Bool
says_yes Yes = true
says_yes No = false
