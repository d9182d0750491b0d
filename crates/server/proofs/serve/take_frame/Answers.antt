use Rattle.std.proofs.Common.{length, arith}
use Rattle.wire.specs.declared.code.Code.TheVariants.{Binary, Ascii}
use Rattle.server.specs.Serves.{served}
use Rattle.server.specs.Histories.{no_window, state_at}
use Rattle.server.proofs.Accepts.{passing_accepted}
use Rattle.server.proofs.Upheld.{faults_move_nothing, space_kept}
use Rattle.server.proofs.Exact.{accepted_says}
use Rattle.server.proofs.Onward.{frame_taken}
use Rattle.server.proofs.Says.{alike_answer, reads_move_nothing}
use Rattle.server.proofs.serve.take_frame.Goals as goal

pub returns-in-Binary : goal.returns-in-Binary
returns-in-Binary g c =
    let x = c.args in
    let q = c.serve in
    let e = q.ensures in
    let leaves = g.M.WritableMemory.leaves in
    let means = g.M.ReadableMemory.means in
    let lists = g.R.Registering.lists in
    let m = means x.memory.now in
    let m' = means q.new.memory in
    let l = lists x.registration.now in
    let l' = lists q.new.registration in
    let flag = x.settings.now.write_flag in
    let n = length x.reply.now in
    rw c.in-Binary.is
    (record {
      served = record {
        came = e.came;
        space = space_kept (served Binary x.frame.now n m flag l) q.result x.reply.now q.new.reply m' l' e.came;
        alike = alike_answer Binary x.frame.now m m' flag l l' q.result x.reply.now q.new.reply e.came e.fits.1;
        one = accepted_says Binary x.frame.now m m' flag l l' q.result x.reply.now q.new.reply (λ i. omega (arith, c.type_inv.frame i)) (g.M.ReadableMemory.sound.small x.memory.now) e.came;
        accepts = passing_accepted (state_at means lists x.memory.now x.settings.now x.registration.now no_window) Binary x.frame.now x.reply.now q.new.reply q.result m' l' e.came;
      };
      left = e.left;
      good = e.good;
      fits = e.fits;
      faults = faults_move_nothing leaves Binary x.frame.now n m m' flag l l' q.result x.reply.now q.new.reply x.memory.now q.new.memory x.registration.now q.new.registration e.came e.left e.declined;
      reads = reads_move_nothing leaves Binary x.frame.now n m flag l x.memory.now q.new.memory e.left;
      carries = λ aside. frame_taken (state_at means lists x.memory.now x.settings.now x.registration.now aside) Binary x.frame.now x.reply.now q.new.reply q.result m' l' e.came;
    })

pub returns-in-Ascii : goal.returns-in-Ascii
returns-in-Ascii g c =
    let x = c.args in
    let q = c.serve-in-Ascii in
    let e = q.ensures in
    let leaves = g.M.WritableMemory.leaves in
    let means = g.M.ReadableMemory.means in
    let lists = g.R.Registering.lists in
    let m = means x.memory.now in
    let m' = means q.new.memory in
    let l = lists x.registration.now in
    let l' = lists q.new.registration in
    let flag = x.settings.now.write_flag in
    let n = length x.reply.now in
    rw c.in-Ascii.is
    (record {
      served = record {
        came = e.came;
        space = space_kept (served Ascii x.frame.now n m flag l) q.result x.reply.now q.new.reply m' l' e.came;
        alike = alike_answer Ascii x.frame.now m m' flag l l' q.result x.reply.now q.new.reply e.came e.fits.1;
        one = accepted_says Ascii x.frame.now m m' flag l l' q.result x.reply.now q.new.reply (λ i. omega (arith, c.type_inv.frame i)) (g.M.ReadableMemory.sound.small x.memory.now) e.came;
        accepts = passing_accepted (state_at means lists x.memory.now x.settings.now x.registration.now no_window) Ascii x.frame.now x.reply.now q.new.reply q.result m' l' e.came;
      };
      left = e.left;
      good = e.good;
      fits = e.fits;
      faults = faults_move_nothing leaves Ascii x.frame.now n m m' flag l l' q.result x.reply.now q.new.reply x.memory.now q.new.memory x.registration.now q.new.registration e.came e.left e.declined;
      reads = reads_move_nothing leaves Ascii x.frame.now n m flag l x.memory.now q.new.memory e.left;
      carries = λ aside. frame_taken (state_at means lists x.memory.now x.settings.now x.registration.now aside) Ascii x.frame.now x.reply.now q.new.reply q.result m' l' e.came;
    })
