mod Cases
mod Firsts
