-- What was taken in each call is taken in all.
use Rattle.std.proofs.Common.{◌++◌, take, refl, rules}
use Rattle.arc_script.proofs.Devices.{front_grows, takes_on, told_grows, write_takes}
use Rattle.arc_script.proofs.script.write_out.Goals as goal

pub loop-rest-preserved : goal.loop-rest-preserved
loop-rest-preserved g c =
    let front = c.loop-rest.invariant.front in
    let rest = c.loop-rest.rest.now in
    let told = g.W.Sink.traffic in
    let said = c.in-Ok.ensures in
    record {
      front = (
        front.0 ++ take c.in-Ok.n rest,
        front_grows c.args.bytes.now front.0 rest _ c.in-Ok.n front.1 refl,
        told_grows (told c.args.writer.now) (told c.loop-rest.writer) _ front.0 rest c.in-Ok.n
            front.2 said.told,
      );
      clean = search rules;
      taken =
          takes_on c.loop-rest.invariant.taken
          (write_takes _ _ _ _ c.write.result rest c.write.ensures.told c.write.ensures.bytes);
    }
