use Rattle.std.proofs.Common.{◌≡◌, true}
use Rattle.helix_words.specs.Words.{HasRoomFor}
use Rattle.helix_words.specs.Trails.{IsAlong}
use Rattle.helix_words.proofs.tests.listed.goes_through.Given as goal

abbrev pub invariant-loop-string : goal.invariant-loop-string
invariant-loop-string l = record {
  room : HasRoomFor l.words l.trail.room;
  along : l.more ≡ true → IsAlong l.words l.trail;
}
