use Rattle.std.proofs.Common.{ap, map, ◌∙◌, refl}
use Rattle.std.proofs.lemmas.Simd.{map-map}
use Rattle.host_jobs.specs.ToldClosure.{told}
use Rattle.host_jobs.proofs.recorded_hosts.RecordedHosts.new.Goals as goal

pub returns : goal.returns
returns g c =
    let copied = ap (map told) c.in_ok-closures.ensures ∙ map-map told (λ slot. slot.closure) c.deref.result.now ∙ ap (map (λ slot. told slot.closure)) c.deref.ensures.value in
    rw copied refl
