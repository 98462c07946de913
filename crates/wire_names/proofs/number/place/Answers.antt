use Rattle.std.proofs.Common.{◌≡◌, ◌<◌, length, Some, sym, arith}
use Rattle.std.proofs.lemmas.Result.{IfOk-weaker}
use Rattle.name_places.specs.Places.{place_of}
use Rattle.wire_names.proofs.Ordered.{place_within}
use Rattle.wire_names.proofs.number.place.Goals as goal

pub returns-in-Some-clause-within : goal.returns-in-Some-clause-within
returns-in-Some-clause-within c =
    let names = c.args.names.now in
    let stands : place_of names c.bytes.result.now ≡ Some c.in-Some.place = sym c.in-Some.ensures in
    let within : c.in-Some.place < length names = place_within names c.bytes.result.now c.in-Some.place stands in
    IfOk-weaker c.number.result (λ n. n ≡ c.in-Some.place) (λ n. n < length names) (λ n e. omega arith) c.number.ensures
