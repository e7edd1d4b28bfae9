mod Nth
